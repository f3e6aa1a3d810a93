-- Telling      what the row of a change tells
pub mod Telling
