-- The six clauses of the checker (check_laws) as code asks them: of words in slices, each in one pass.
--     Clauses   the clauses on words, and `judged`, which is all six
--     Pairing   the partners of the new elements, pair by pair; partners that rise
--     Table     the words of a tree's elements, and what they tell of the definition's table
--     Rising    pairs whose parents are pairs and whose siblings keep their order rise in preorder
--     Covered   what is at or below a changed element, asked of each element and its parent alone
--     Judged    THE LAW: the definition accepts exactly if `judged` says so
pub mod Clauses
pub mod Pairing
pub mod Table
