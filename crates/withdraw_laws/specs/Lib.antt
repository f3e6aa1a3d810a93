-- Stronger rules first (document 02, Note 9): laws of `definition`'s Withdrawing, and of what the account says of it.
-- To know what is said, read:
--     Words        overlap, kept, and withdrawn under k, as statements (`Overlapping`, `GivesWay`, `Kept`, `Under`)
--     Kept         OF ANY SORTED CHANGES: `kept_exactly`, `withdrawn_under`, `insertions_stay`; the definition's test as a statement: `gives_way_lem`
--     Choice       off, or with equal numbers, nothing is withdrawn and the answers are the same: `none_off`, `equal_numbers`, `edit_equal`, `account_equal`
--     Numbers      places of what is left and numbers of all: `place_number`, `number_place`, `numbers_rise`; the account by them: `account_length`,
--                  `account_withdrawn`, `account_planned`; where nothing is withdrawn: `account_same`, `lines_same`
-- The proofs rest on:
--     Lists        of tests on lists
pub mod Lists
pub mod Words
