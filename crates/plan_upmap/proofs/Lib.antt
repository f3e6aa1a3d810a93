-- Descending   the loops of `nth_child` and `descend`, and the landing
-- Moving       the answers of `upmap_below` and `upmap_child`
-- Notes        the nearest mapped ancestor, one move, and the loop of `upmap_element`
pub mod Descending
pub mod Moving
pub mod Notes
