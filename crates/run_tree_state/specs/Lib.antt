-- The state of a run, and one splice of all that is held.
--     Coming     what comes in with a step is in bounds
--     Store      what a splice of all that is held asks for and makes
--     Sizes      how large a step makes what is held
--     Applied    one step, where its gap and its parts are known
pub mod Coming
pub mod Store
pub mod Sizes
pub mod Applied
