-- What the functions write, and that it is what the definition prints.
--     Printable   bytes of a result that can be printed into the room that there is
--     Lines       what is written at a place; lines and their lengths
--     Held        the pairs that a value names
pub mod Printable
pub mod Lines
pub mod Held
