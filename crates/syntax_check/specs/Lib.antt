-- The checker for C and Rust.
--     Returned   a verdict as one number, and THE PROMISE of `syntax_check`
pub mod Returned
