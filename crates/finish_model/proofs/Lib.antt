pub mod Numbers
pub mod Result
pub mod Alike
