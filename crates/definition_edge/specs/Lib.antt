-- Edge rule 1 (document 02, Note 6): its account is true, and under it no own insertion is lost. Every law is of any list of changes that line 6 accepts, planned by the rule.
-- To know what is said, read:
--     Fates     THE ACCOUNT IS TRUE (`fates_true`): each fate names the innermost region that takes the change, or there is none; the rule for fates without counting (`fate_by_region`)
--     Apart     THE SPLICES ARE APART (`apart_by_rule_1`) of an accepted batch that replaces no root of tree 0 and has no dependent change ending there
--     Kept      so it answers with the one-go tree, and what each own change puts into tree 0 stands in it (`kept_by_rule_1`)
--     Examples  both rules on batches where they part; each half of the condition is needed
-- The proof, each file resting on those above it:
--     Region    the innermost of the regions that take a change, and no other
--     Depths    a region that owns has its target parent further out than what it takes
--     Gone      a later splice has no end among the children that an earlier one deletes (line 11)
--     Where     where a change goes in tree 0, by elements and by paths
--     Taking    when a region takes a change, by paths
--     Own       own changes: no region takes them, none is rewritten, all are performed
--     Stands    every prepared list of splices that are apart stands in the new tree
pub mod Region
pub mod Fates
pub mod Own
pub mod Stands
pub mod Kept
pub mod Examples
