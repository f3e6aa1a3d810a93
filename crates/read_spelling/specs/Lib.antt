-- Line 5: which elements spell trees.
--     Spelling      line 5, element by element, with a stack
--     Held          the elements that stand in some bytes, by the value that says where
--     SpellingLaws  line 5 accepts just the batches that spell trees
--     Preorder      the elements of such a batch are those of the trees, in preorder
--     Stack         the front of an array as a stack; the elements that are left to read
pub mod Spelling
pub mod Held
pub mod SpellingLaws
pub mod Preorder
pub mod Stack
