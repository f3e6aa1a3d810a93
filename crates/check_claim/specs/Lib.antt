-- The checker of another editor's output.
--     Promise   THE PROMISE of `check`
--     Held      the claims as one value
--     Lent      the work slices as one value
--     Judging   what its parts answer
--     Checked   the parts together answer as the definition does
pub mod Promise
pub mod Held
pub mod Lent
pub mod Judging
pub mod Checked
