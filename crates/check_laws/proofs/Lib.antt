pub mod Alone
pub mod Formed
pub mod Meaning
pub mod Output
pub mod Own
pub mod Sweep
