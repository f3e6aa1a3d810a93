-- A program's arguments.
--     Given    what is read of them, and the choices that it gives
--     Digits   a digit by its tests, and which arguments are refused
pub mod Given
pub mod Digits
