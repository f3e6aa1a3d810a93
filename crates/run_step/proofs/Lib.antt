-- Steps        the gap gives way to what the listed elements yield
-- Performing   one performed change
pub mod Steps
pub mod Performing
