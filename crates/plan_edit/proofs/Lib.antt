-- Each way out of a function, from what its callees ensure.
pub mod Sorting
pub mod Settling
pub mod Rewriting
pub mod Judging
