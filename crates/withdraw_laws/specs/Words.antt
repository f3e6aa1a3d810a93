-- What is said of withdrawal (document 02, Note 9), as statements.
-- Assumes nothing.
use Rattle.std.specs.Prelude.{◌≡◌, ◌⊎◌, true, List, ℕ, ◌≤◌, ◌<◌, length}
use Rattle.std.proofs.Math.Option.{none, some}
use Rattle.std.proofs.Math.ListN.{get_elem?}
use Rattle.definition.specs.Elements.{Table, tree}
use Rattle.definition.specs.Recording.{Recorded, Change}
use Rattle.definition.specs.Planning.{target, from, to, parent_depth}
use Rattle.definition.specs.EdgeRule.{removes}
use Rattle.definition.specs.Withdrawing.{replaces, withdrawals}

module _ (T : Table) where
  -- "Overlap means that each starts before the other ends, or that both remove the same element, those below included."
  abbrev pub Overlapping : Change → Change → Type 0
  Overlapping c d = ((from T c < to T d) × (from T d < to T c)) ⊎ ((e : ℕ) × (e < length T) × (removes T c e ≡ true) × (removes T d e ≡ true))

  -- c overlaps d, which is "of a higher number in the same tree and at the same parent depth"
  pub record GivesWay (c d : Recorded) : Type 0 where
    pub higher : c.rule < d.rule
    pub tree : tree T (target c.change) ≡ tree T (target d.change)
    pub depth : parent_depth T c.change ≡ parent_depth T d.change
    pub overlap : Overlapping c.change d.change

  -- number i of the sorted changes rs is r, a replacement or a run, and is kept
  pub record Kept (rs : List Recorded) (i : ℕ) (r : Recorded) : Type 0 where
    pub at : get_elem? rs i ≡ some r
    pub replaces : replaces r.change ≡ true
    pub stays : get_elem? (withdrawals T rs) i ≡ some none

  -- "k being the kept one with the highest number that it so overlaps, among equals the first sorted"
  pub record Under (rs : List Recorded) (r : Recorded) (k : ℕ) : Type 0 where
    pub one : Recorded
    pub kept : Kept rs k one
    pub way : GivesWay r one
    pub highest : (j : ℕ) (s : Recorded) → Kept rs j s → GivesWay r s → (s.rule < one.rule) ⊎ ((s.rule ≡ one.rule) × (k ≤ j))
