-- Tests   whether words are below a limit
-- Ways    what is laid out
pub mod Tests
pub mod Ways
