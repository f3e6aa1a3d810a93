-- The memory of a series of edits: a tree and bookmarks, and what they are held to: lines 3, 4, 5, 20 and 21 (document 02, Note 14).
-- Assumes nothing.
use Rattle.std.specs.Prelude.{Bool, not, ◌&&◌, ◌||◌, List, ◌∷◌, map, ℕ, length, ltb}
use Rattle.orders.specs.Tree.{Tree, node, forest, Path, resolve}
use Rattle.definition.specs.Basics.{Answer, gives, ◌>>=◌, refuse, or_refuse, is_some, any}
use Rattle.definition.specs.Elements.{spelled}
use Rattle.definition.specs.Writing.{differ}
use Rattle.check_laws.specs.Check.{Flat, alone, no_repeat, same_bytes}

-- "old paths with their numbers": a number, and the child numbers from the root down
abbrev pub Bookmark : Type 0
Bookmark = ℕ × Path

-- "Tree and bookmarks are lent to each later call": the tree as kind words, measures and text
pub record Memory : Type 0 where
  pub tree : Flat
  pub bookmarks : List Bookmark

-- "Keep up to 256 old paths"
abbrev pub most_bookmarks : ℕ
most_bookmarks = 256

-- "The starting tree is first held to lines 3 and 5, as a batch's single tree"
abbrev pub most_at_start : ℕ
most_at_start = 2048

-- a later call "holds them to the same .., the tree to 4,096 elements"
abbrev pub most_later : ℕ
most_later = 4096

-- 3, of so many elements at most; the text to 16,384 bytes, as a batch's
unfoldable pub too_big : ℕ → Flat → Bool
too_big most t = ltb most (length t.kinds) || ltb most (length t.measures) || ltb 16384 (length t.text)

-- 20: "more than 256 bookmarks or a number given twice"
unfoldable pub wrong_numbers : List Bookmark → Bool
wrong_numbers bs = ltb most_bookmarks (length bs) || not (no_repeat (map (λ b. b.0) bs))

-- 21, of one bookmark of the tree (a list of one): "a path that finds no element in that tree"
unfoldable pub astray : List (Tree ℕ) → Bookmark → Bool
astray ts b = not (is_some (resolve (0 ∷ b.1) (node 2147483648 (forest ts))))

-- WHAT A MEMORY IS HELD TO: 3, 4 ("lists in step that differ in length break 4"), 5, "the bookmarks to 20 and 21", "21, checked after 20". The tree, as a list of one
unfoldable pub held : ℕ → Memory → Answer (List (Tree ℕ))
held most m = do
  _ ← refuse 3 (too_big most m.tree)
  _ ← refuse 4 (differ m.tree.kinds m.tree.measures)
  ts ← or_refuse 5 (spelled (alone m.tree))
  _ ← refuse 20 (wrong_numbers m.bookmarks)
  _ ← refuse 21 (any (astray ts) m.bookmarks)
  gives ts

-- "Trees are equal .. if kind words, measures and text agree in preorder"
unfoldable pub same_tree : Flat → Flat → Bool
same_tree s t = same_bytes s.kinds t.kinds && (same_bytes s.measures t.measures && same_bytes s.text t.text)
