-- Planning on change rows, from an accepted batch to what is to be run.
--     Recorded   what is known of each recorded change and of the listed elements
--     Owners     a dependent's owner is a call 2 that stands among the changes
--     Fated      the sorted rows and their fates: the definition's planned changes, and what rewriting asks of them
--     Running    the rewritten rows in running order: the definition's performed changes
--     Noted      the settled notes in words: the definition's first notes
--     Ready      what lines 2 to 7 leave, as planning goes by it
--     Outcome    what planning makes of a batch, and each way out of it on rows
pub mod Recorded
pub mod Owners
pub mod Fated
pub mod Running
pub mod Noted
pub mod Ready
pub mod Outcome
