pub mod Sum
pub mod Texts
pub mod Examples
pub mod Laws
pub mod Ranges
pub mod Root
