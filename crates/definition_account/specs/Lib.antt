-- The account of a run on the definition: what its changed elements and its old ones are to each other and to the new tree (document 02, Notes 10, 11, 13 and 14). Every law is of any performed changes, whatever planned them.
-- To know what is said, read:
--     Words     changed elements, old elements, what went where; the invariant of every run; what Note 13 says
--     Account   THE INVARIANT and NOTE 13, of any performed changes (`performed_apart`, `performed_apart_in_new`, `full_account`) and of a batch (`ran_apart`, `note_13`)
--     Moved     NOTE 14, of one batch: paths move as all splices and root replacements in a row do
--     Tokens    a token that stays keeps its text
--     Examples  Note 13's two numbers for each element, by computation; each half of its condition is needed
-- The proof, each file resting on those above it:
--     Changed   the paths of changed elements
--     Moving    paths that move, seen from where they come to
--     Splice    one splice
--     Run       any steps, from the first to the last (`every_step_apart`)
--     Numbers   from paths to the element numbers of the result
--     Dropped   which old paths are dropped
pub mod Words
pub mod Moved
pub mod Examples
