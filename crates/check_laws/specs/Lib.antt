-- Checking another editor's output (document 02, Note 11): the checker as a definition, and that our own output is accepted.
-- To know what is said, read:
--     Check            THE CHECKER: what is claimed, each of the six clauses by name, and the order of the refusals (`checked`)
--     Examples         claims that are accepted, claims that break one clause each, and the refusals, by computation
--     Layout           claims as bytes, and what the program `check` prints of them (`claims_of`, `claim_printed`)
--     Meaning          the six clauses as statements; the checker accepts exactly if they hold (`checked_exactly`)
--     Claimed          our own output as claims: the old tree, the new tree, the surviving pairs, the changed elements
--     Output           THE THEOREM: our own output is accepted if the root was not replaced and no dependent change ended in tree 0 (`own_accepted`)
--     ClaimedExamples  our own output of batches, by computation; each half of the condition is needed
-- The proof, each file resting on those above it:
--     ListLaws         of the tests that the clauses are made of
--     Sweep            for code: siblings by number, and what is covered, in one sweep in preorder (`sibling_order`, `covered_below`)
--     Alone            the first tree, taken alone, is as it is among all
--     Own              each clause, of any performed changes (`own_1` to `own_6`, `own_accepts`)
--     Formed           kind words keep their form, whatever steps are performed; so the new tree passes line 5
pub mod Check
pub mod Layout
pub mod Examples
pub mod ListLaws
pub mod Claimed
pub mod ClaimedExamples
