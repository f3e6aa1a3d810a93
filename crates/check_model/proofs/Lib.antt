pub mod Pairing
pub mod Covered
pub mod Judged
pub mod Rising
