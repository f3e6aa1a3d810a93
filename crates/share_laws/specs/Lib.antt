-- Share of text rewritten (document 02, Note 10): the definition, and what is proved of it. Every law is of a batch by any choices, or of any performed changes.
-- To know what is said, read:
--     Share     the definition: `share` of a batch, `shared` as a public call
--     Sum       THE SUM LAW (`sum_law`, `ran_sum`): as many bytes are rewritten as the text lengths of the changed elements add up to
--     Texts     the same by what the current trees hold at the changed paths (`sum_of_texts`), and the share so computed (`ran_share`)
--     Laws      the bounds and the exact remainder (`share_exact`), nothing changed (`share_nothing`, `ran_nothing`), an empty text (`share_empty`), numbers that fit words (`ran_fits`), refused as the edit is (`refused_alike`, `shared_alike`) and else told by its result (`share_of_edit`)
--     Root      THE ROOT REPLACED gives 1,000 and 0 (`share_root`, `ran_root`)
--     Examples  the share of batches that are written out, by computation
-- The proof rests on
--     Ranges    the text ranges of elements of one tree: within its text, and apart where neither element is at or below the other
pub mod Share
pub mod Printed
pub mod Sum
pub mod Texts
