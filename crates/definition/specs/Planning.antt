-- Planning: sorting, refusal 8, and what becomes of each change.
-- Assumes nothing.
use Rattle.std.specs.Prelude.{Bool, true, false, cond, not, ◌&&◌, ℕ, suc, ◌-◌, get_or, set, replicate, leb, ltb, eqb}
use mathlib.Core.List.{List, [], ◌∷◌, map, zip_with}
use Rattle.std.proofs.Math.Option.{Option, none, some}
use Rattle.definition.specs.Basics.{keep, first, numbered, rising}
use Rattle.definition.specs.Elements.{Table, row, node?, root?, depth, tree}
use Rattle.definition.specs.Recording.{Recorded, first_child, after, Change, insert, replace, delete, replace_with_many, replace_all}

-- ── Sorting ─────────────────────────────────────────────────────────────────────────────────────────────────

-- the target of a change
unfoldable pub target : Change → ℕ
target (insert p x l) = x
target (replace x y) = x
target (delete x) = x
target (replace_with_many x l) = x
target (replace_all x y l) = x

-- "then insert, run, replace (3 and 4 count as replace)"
unfoldable pub rank : Change → ℕ
rank (insert p x l) = 0
rank (replace_all x y l) = 1
rank (replace x y) = 2
rank (delete x) = 2
rank (replace_with_many x l) = 2

module _ (T : Table) where
  -- the start of its range: "An insertion has an empty range: at the end of its target, or at the start of the first child"; of a node
  -- without children "at the node's own start" (document 02, Note 1), which is where the first child starts if there is one
  unfoldable pub from : Change → ℕ
  from (insert first_child x l) = (row T x).start
  from (insert after x l) = (row T x).end
  from (replace x y) = (row T x).start
  from (delete x) = (row T x).start
  from (replace_with_many x l) = (row T x).start
  from (replace_all x y l) = (row T x).start

  -- the end of its range
  unfoldable pub to : Change → ℕ
  to (insert first_child x l) = (row T x).start
  to (insert after x l) = (row T x).end
  to (replace x y) = (row T x).end
  to (delete x) = (row T x).end
  to (replace_with_many x l) = (row T x).end
  to (replace_all x y l) = (row T y).end

  -- the depth of x's parent; of a root, its own
  unfoldable pub above : ℕ → ℕ
  above x = cond (root? T x) (depth T x) (depth T x - 1)

  -- "depth of target parent": "Call 0's target parent is its target, a root's the root."
  unfoldable pub parent_depth : Change → ℕ
  parent_depth (insert first_child x l) = depth T x
  parent_depth (insert after x l) = above x
  parent_depth (replace x y) = above x
  parent_depth (delete x) = above x
  parent_depth (replace_with_many x l) = above x
  parent_depth (replace_all x y l) = above x

  -- "range start, then depth of target parent, then insert, run, replace"
  unfoldable pub key : Change → List ℕ
  key c = from c ∷ parent_depth c ∷ rank c ∷ []

  -- "Changes are sorted, stably, by range start, then depth of target parent, then insert, run, replace"
  unfoldable pub sorted : List Recorded → List Recorded
  sorted rs = rising (λ r. key r.change) rs

  -- ── Overlap ───────────────────────────────────────────────────────────────────────────────────────────────

  -- two changes "of the same tree and depth of target parent"
  unfoldable pub peers : Change → Change → Bool
  peers c d = eqb (tree T (target c)) (tree T (target d)) && eqb (parent_depth c) (parent_depth d)

  -- the end of the earlier one, if there is one, exceeds the start of c
  unfoldable pub exceeds : Option (ℕ × Change) → Change → Bool
  exceeds none c = false
  exceeds (some d) c = ltb (from c) (to d.1)

  -- of changes with their places, those before it `seen`, the last first: the first that the one before it among its peers exceeds, as both places
  unfoldable pub overlapping : List (ℕ × Change) → List (ℕ × Change) → Option (ℕ × ℕ)
  overlapping seen [] = none
  overlapping seen (c ∷ cs) =
      let before = first (λ d. peers c.1 d.1) seen in
      let later = overlapping (c ∷ seen) cs in
      cond (exceeds before c.1) (elim before [ none ↦ none | some d ↦ some (d.0, c.0) ]) later

  -- 8: "among replacements and runs of the same tree and depth of target parent, the earlier end exceeds the next start": such a pair, insertions (rank 0) left out
  unfoldable pub overlap : List Change → Option (ℕ × ℕ)
  overlap cs = overlapping [] (keep (λ c. not (eqb (rank c.1) 0)) (numbered 0 cs))

-- ── Regions ─────────────────────────────────────────────────────────────────────────────────────────────────

-- what becomes of a change: it has no owner; it depends on the change at place k; it is discarded under the change at place k
pub data Fate : Type 0 where
  own : Fate
  dependent : ℕ → Fate
  discarded : ℕ → Fate

-- the fate is to be discarded
unfoldable pub is_discarded : Fate → Bool
is_discarded own = false
is_discarded (dependent k) = false
is_discarded (discarded k) = true

-- the range of a change, and what it makes of inner changes
pub record Region : Type 0 where
  pub from : ℕ
  pub to : ℕ
  pub inner : Fate

-- a region "whose range contains" a to b, "ends included"
abbrev pub contains : ℕ → ℕ → Region → Bool
contains a b r = leb r.from a && leb b r.to

-- "A change belongs to the last region whose range contains its own, ends included; later regions are removed. If none contains it, the stack is emptied."
-- (the last region stands first)
unfoldable pub around : ℕ → ℕ → List Region → List Region
around a b [] = []
around a b (r ∷ rs) = cond (contains a b r) (r ∷ rs) (around a b rs)

-- what the last region makes of a change in it
unfoldable pub fate : List Region → Fate
fate [] = own
fate (r ∷ rs) = r.inner

-- a change, what becomes of it, and its rule number
pub record Planned : Type 0 where
  pub change : Change
  pub fate : Fate
  pub rule : ℕ

module _ (T : Table) where
  -- "Calls 2, 3 and 4 on a node, and every run, add a region."
  unfoldable pub adds_region : Change → Bool
  adds_region (insert p x l) = false
  adds_region (replace x y) = node? T x
  adds_region (delete x) = node? T x
  adds_region (replace_with_many x l) = node? T x
  adds_region (replace_all x y l) = true

  -- a "call 2 of a node by a node"
  unfoldable pub node_by_node : Change → Bool
  node_by_node (insert p x l) = false
  node_by_node (replace x y) = node? T x && node? T y
  node_by_node (delete x) = false
  node_by_node (replace_with_many x l) = false
  node_by_node (replace_all x y l) = false

  -- "Only an undiscarded call 2 of a node by a node makes inner changes dependent; all other regions discard them." (the change c has place k and fate f)
  unfoldable pub inner : ℕ → Fate → Change → Fate
  inner k f c = cond (not (is_discarded f) && node_by_node c) (dependent k) (discarded k)

  -- the stack after the change c at place k, whose regions around it are rs
  unfoldable pub pushed : ℕ → Change → List Region → List Region
  pushed k c rs = cond (adds_region c) (record { from = from T c; to = to T c; inner = inner k (fate rs) c } ∷ rs) rs

  -- "Regions stand in a stack per tree": the fates of sorted changes from place k on, with the stacks
  unfoldable pub fates_from : ℕ → List (List Region) → List Change → List Fate
  fates_from k stacks [] = []
  fates_from k stacks (c ∷ cs) =
      let t = tree T (target c) in
      let rs = around (from T c) (to T c) (get_or stacks t []) in
      fate rs ∷ fates_from (suc k) (set stacks t (pushed k c rs)) cs

  -- RULE 0: what becomes of each of the sorted changes, at most 16 trees, each with an empty stack at first
  unfoldable pub fates : List Change → List Fate
  fates cs = fates_from 0 (replicate 16 []) cs

-- ── Judged ──────────────────────────────────────────────────────────────────────────────────────────────────

-- the changes without their rule numbers: no fate and no overlap depends on them
unfoldable pub changes_of : List Recorded → List Change
changes_of rs = map (λ r. r.change) rs

-- changes with what becomes of each
unfoldable pub with_fates : List Recorded → List Fate → List Planned
with_fates rs fs = zip_with (λ r f. record { change = r.change; fate = f; rule = r.rule }) rs fs

-- what is found of the changes before any is rewritten: two overlap, at the places j and k; or else what becomes of each
pub data Judgement : Type 0 where
  overlaps : ℕ → ℕ → Judgement
  fated : List Planned → Judgement
