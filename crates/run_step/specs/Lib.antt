-- One step in words.
--     Standing    the batch and what is held now, as the words tell them
--     Opening     where a change goes there is a gap, and room
--     Stepping    what the functions of one step promise
pub mod Standing
pub mod Opening
pub mod Stepping
