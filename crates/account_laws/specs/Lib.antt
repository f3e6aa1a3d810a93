-- The account of each change (document 02, Note 5) on the definition: what is said of a change, and of a pair that overlaps, is true and agrees with the edit.
-- To know what is said, read:
--     Words     the owner of a change in closed form (`Owns`, `Owner`, `owner`); a pair that overlaps (`Overlap`)
--     Account   OF A BATCH: `account_true` (rule 0), `account_true_1` (rule 1); by either `overlap_told`, `disjoint_told`, `account_agrees`
--     Owners    of any changes, by rule 0: `stack_rule`, `fate_of_owner`, `named_contains`, `own_exactly`, `dependent_exactly`
--     Overlap   of any changes: `overlap_true`, `overlap_first`, `overlap_none`, `overlap_exactly`
--     Runs      of any changes, whatever planned them: what runs is a permutation of what is not discarded (`order_permutes`)
--     Examples  owners, fates and overlaps by computation
-- The proof:
--     Below     numbers below another that pass a test
--     Stacks    the stack of each tree: nested, and its regions are those that no later change leaves
--     Counts    lists in which each number stands as often are permutations of each other
pub mod Words
pub mod Account
pub mod Examples
