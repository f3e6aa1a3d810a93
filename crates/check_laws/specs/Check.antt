-- Checking another editor's output: document 02, Note 11; refusals 3, 4, 5 and 19 of its claims.
-- Assumes nothing.
use Rattle.std.specs.Prelude.{Bool, true, false, not, ◌&&◌, ◌||◌, ℕ, length, leb, ltb, eqb}
use mathlib.Core.List.{List, [], ◌∷◌, ◌++◌, map, zip}
use Rattle.std.proofs.Math.Option.{Option, none, some}
use Rattle.orders.specs.Tree.{Tree, node, token, forest, resolve}
use Rattle.definition.specs.Basics.{Answer, gives, ◌>>=◌, refuse, or_refuse, is_some, any, among, numbered}
use Rattle.definition.specs.Batch.{Batch}
use Rattle.definition.specs.Elements.{Table, table, row, node?, parent, child, place_below, spelled}
use Rattle.definition.specs.Refusals.{same_parent}
use Rattle.definition.specs.Writing.{differ}

-- ── What is claimed ─────────────────────────────────────────────────────────────────────────────────────────

-- a tree as lists: kind words and measures in preorder, and the text
pub record Flat : Type 0 where
  pub kinds : List ℕ
  pub measures : List ℕ
  pub text : List ℕ

-- "an old tree, a new tree .., claimed pairs of kept elements, and claimed changed elements": the pairs as two lists, old numbers and new ones
pub record Claims : Type 0 where
  pub old : Flat
  pub new : Flat
  pub olds : List ℕ
  pub news : List ℕ
  pub changed : List ℕ

-- ── The refusals ────────────────────────────────────────────────────────────────────────────────────────────

-- 3: "each to 4,096 elements, else 3"; its text to 16,384 bytes, as everywhere. Either of two lists in step counts
unfoldable pub too_big : Flat → Bool
too_big t = ltb 4096 (length t.kinds) || ltb 4096 (length t.measures) || ltb 16384 (length t.text)

-- 4: "lists in step that differ in length break 4"
unfoldable pub unequal : Claims → Bool
unequal c = differ c.old.kinds c.old.measures || differ c.new.kinds c.new.measures || differ c.olds c.news

-- a tree as a batch of one tree and no call, so that line 5 is said of it
unfoldable pub alone : Flat → Batch
alone t = record {
  trees = 1;
  kinds = t.kinds;
  measures = t.measures;
  calls = [];
  targets = [];
  listed = [];
  inputs = [];
  outputs = [];
  noted = [];
  numbers = [];
  text = t.text;
}

-- 19: "a claim names no element of its tree"
unfoldable pub names_none : Table → Table → Claims → Bool
names_none O N c = any (leb (length O)) c.olds || any (leb (length N)) (c.news ++ c.changed)

-- ── The six clauses ─────────────────────────────────────────────────────────────────────────────────────────

-- each passes the test
unfoldable pub every : {A : Type 0} → (A → Bool) → List A → Bool
every p [] = true
every p (x ∷ l) = p x && every p l

-- x and y are claimed as a pair
unfoldable pub is_pair : List (ℕ × ℕ) → ℕ → ℕ → Bool
is_pair P x y = any (λ p. eqb p.0 x && eqb p.1 y) P

-- the same bytes
unfoldable pub same_bytes : List ℕ → List ℕ → Bool
same_bytes [] [] = true
same_bytes [] (b ∷ m) = false
same_bytes (a ∷ l) [] = false
same_bytes (a ∷ l) (b ∷ m) = eqb a b && same_bytes l m

-- the text of a token; a node has none of its own
unfoldable pub own_text : Option (Tree ℕ) → List ℕ
own_text none = []
own_text (some (node w cs)) = []
own_text (some (token w own)) = own

-- that of the element x of trees: of what stands at its path
unfoldable pub text_at : List (Tree ℕ) → ℕ → List ℕ
text_at ts x = own_text (resolve (row (table 0 0 ts) x).path (node 2147483648 (forest ts)))

-- no number stands twice
unfoldable pub no_repeat : List ℕ → Bool
no_repeat [] = true
no_repeat (x ∷ l) = not (among l x) && no_repeat l

-- two elements' parents, if both have one, are a pair
unfoldable pub are_pair : List (ℕ × ℕ) → Option ℕ → Option ℕ → Bool
are_pair P none n = false
are_pair P (some x) none = false
are_pair P (some x) (some y) = is_pair P x y

-- x stands before y, its sibling
unfoldable pub earlier : Table → ℕ → ℕ → Bool
earlier T x y = same_parent (parent T x) (parent T y) && ltb (child T x) (child T y)

-- just one of two
unfoldable pub just_one : Bool → Bool → Bool
just_one true b = not b
just_one false b = b

-- os and ns are the old tree and the new one (lists of one), P the claimed pairs
module _ (os ns : List (Tree ℕ)) (P : List (ℕ × ℕ)) where
  abbrev O : Table
  O = table 0 0 os

  abbrev N : Table
  N = table 0 0 ns

  -- 1: "the roots are paired"
  unfoldable pub roots_paired : Bool
  roots_paired = is_pair P 0 0

  -- 2: "no element is paired twice", so no pair is given twice
  unfoldable pub none_twice : Bool
  none_twice = no_repeat (map (λ p. p.0) P) && no_repeat (map (λ p. p.1) P)

  -- 3: "paired elements have equal kind words and, for tokens, equal text"
  unfoldable pub pairs_alike : Bool
  pairs_alike = every (λ p. eqb (row O p.0).kind (row N p.1).kind && (node? O p.0 || same_bytes (text_at os p.0) (text_at ns p.1))) P

  -- 4: "paired elements other than the roots have parents that are a pair"
  unfoldable pub parents_paired : Bool
  parents_paired = every (λ p. (eqb p.0 0 && eqb p.1 0) || are_pair P (parent O p.0) (parent N p.1)) P

  -- 5: "paired siblings stand in the same order in both trees"
  unfoldable pub orders_agree : Bool
  orders_agree = every (λ p. every (λ q. not (earlier O p.0 q.0) || earlier N p.1 q.1) P) P

  -- the element y of the new tree is paired
  unfoldable pub is_paired : ℕ → Bool
  is_paired y = among (map (λ p. p.1) P) y

  -- it "is at or below a changed one"
  unfoldable pub is_covered : List ℕ → ℕ → Bool
  is_covered changed y = any (λ c. is_some (place_below N c y)) changed

  -- 6: "every unpaired new element is at or below a changed one, and no paired one is"
  unfoldable pub all_accounted : List ℕ → Bool
  all_accounted changed = every (λ m. just_one (is_paired m.0) (is_covered changed m.0)) (numbered 0 N)

  -- "It accepts exactly if": all six
  unfoldable pub accepts : List ℕ → Bool
  accepts changed = roots_paired && (none_twice && (pairs_alike && (parents_paired && (orders_agree && all_accounted changed))))

-- ── The checker ─────────────────────────────────────────────────────────────────────────────────────────────

-- THE CHECKER: accepted (true) or rejected (false), or the refusal: 3, 4, 5 of the old tree, 5 of the new, 19 "checked after both trees pass line 5"
unfoldable pub checked : Claims → Answer Bool
checked c = do
  _ ← refuse 3 (too_big c.old || too_big c.new)
  _ ← refuse 4 (unequal c)
  os ← or_refuse 5 (spelled (alone c.old))
  ns ← or_refuse 5 (spelled (alone c.new))
  _ ← refuse 19 (names_none (table 0 0 os) (table 0 0 ns) c)
  gives (accepts os ns (zip c.olds c.news) c.changed)
