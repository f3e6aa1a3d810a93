-- The loop of `read_tree`.
pub mod Reading
