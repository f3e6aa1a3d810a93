-- What the functions write, and that it is what the definition says of the changes.
--     Lines   lines, how long they are, and one more behind others
--     Short   an account has at most 8,192 bytes
pub mod Lines
pub mod Short
