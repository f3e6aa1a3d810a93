-- Mappings.
--     Mapped     the mappings as an array by element number
--     Backward   numbers written to an array from its front on, and read backward
--     Paths      paths by the element table's words
--     Answers    what each answer means
pub mod Mapped
pub mod Backward
pub mod Paths
pub mod Answers
