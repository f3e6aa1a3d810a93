-- From a batch to what its run leaves.
--     Stops       what stops a plan, passed on
--     First       what the refusals before everything else tell
--     Ending      the way from a batch to the end of its run, in the definition's words
--     Beginning   what an accepted and planned batch leaves in words is where the run begins
--     Accounting  the account of a batch, by how far its run comes
--     AtEnd       what is held at the end, as the words tell it
--     Performing  what the run asks for is there, and what it answers is the definition's
pub mod Stops
pub mod First
pub mod Ending
pub mod Beginning
pub mod Accounting
pub mod AtEnd
pub mod Performing
