-- Turns      rows, marks, notes and changed rows through one splice
pub mod Turns
