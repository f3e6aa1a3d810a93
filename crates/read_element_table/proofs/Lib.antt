-- Writing    the loop of `fill_elements`
-- Reading    what is read of the table and of the rows
pub mod Writing
pub mod Reading
