-- Stronger rules first (document 02, Note 9): which of the sorted changes are withdrawn before planning, and under which. Off, none is.
-- Assumes nothing.
use Rattle.std.specs.Prelude.{Bool, cond, not, ◌&&◌, ◌||◌, List, [], ◌∷◌, ◌++◌, map, ℕ, ltb, eqb}
use Rattle.std.proofs.Math.Option
use Rattle.std.proofs.Math.Option.{Option, none, some}
use Rattle.definition.specs.Basics.{any, is_some, keep, first, numbered, falling}
use Rattle.definition.specs.Choices.{Choices}
use Rattle.definition.specs.Elements.{Table}
use Rattle.definition.specs.Recording.{Recorded, Change}
use Rattle.definition.specs.Planning.{rank, from, to, peers}
use Rattle.definition.specs.EdgeRule.{removes}

-- a change with its number, "in sorted order, from 0"
abbrev pub Numbered : Type 0
Numbered = ℕ × Recorded

-- "replacements and runs": no insertion
unfoldable pub replaces : Change → Bool
replaces c = not (eqb (rank c) 0)

module _ (T : Table) where
  -- ── Overlap ───────────────────────────────────────────────────────────────────────────────────────────────

  -- "each starts before the other ends"
  unfoldable pub crosses : Change → Change → Bool
  crosses c d = ltb (from T c) (to T d) && ltb (from T d) (to T c)

  -- "both remove the same element, those below included"
  unfoldable pub shares : Change → Change → Bool
  shares c d = any (λ e. removes T c e.0 && removes T d e.0) (numbered 0 T)

  -- "Overlap means that each starts before the other ends, or that both remove the same element, those below included."
  unfoldable pub overlapping : Change → Change → Bool
  overlapping c d = crosses c d || shares c d

  -- c gives way to d if d is kept: "it overlaps a kept one of a higher number in the same tree and at the same parent depth"
  unfoldable pub gives_way : Recorded → Recorded → Bool
  gives_way c d = ltb c.rule d.rule && (peers T c.change d.change && overlapping c.change d.change)

  -- ── Withdrawal ────────────────────────────────────────────────────────────────────────────────────────────

  -- the first of those kept to which c gives way
  unfoldable pub stronger : List Numbered → Recorded → Option Numbered
  stronger kept c = first (λ d. gives_way c d.1) kept

  -- "one is withdrawn exactly if it overlaps a kept one of a higher number": those kept so far, and those still to take
  unfoldable pub keeping : List Numbered → List Numbered → List Numbered
  keeping kept [] = kept
  keeping kept (c ∷ cs) = keeping (cond (is_some (stronger kept c.1)) kept (kept ++ (c ∷ []))) cs

  -- "Taking replacements and runs by falling rule number": those kept, from the highest number to the lowest, those of one number as sorted
  unfoldable pub kept : List Recorded → List Numbered
  kept rs = keeping [] (falling (λ c. c.1.rule ∷ []) (keep (λ c. replaces c.1.change) (numbered 0 rs)))

  -- under which of those kept a change is withdrawn: "k being the kept one with the highest number that it so overlaps, among equals the first sorted"; none if
  -- it stays, as insertions do
  unfoldable pub withdrawn_by : List Numbered → Recorded → Option ℕ
  withdrawn_by kept c = cond (replaces c.change) (Option.map (λ d. d.0) (stronger kept c)) none

  -- the same of each sorted change
  unfoldable pub withdrawals : List Recorded → List (Option ℕ)
  withdrawals rs = let ks = kept rs in map (withdrawn_by ks) rs

-- ── By the choice ───────────────────────────────────────────────────────────────────────────────────────────

-- "This is a choice wherever a batch is edited, off (0) by default or on (1)": off, nothing is withdrawn
unfoldable pub withdrawals_by : Choices → Table → List Recorded → List (Option ℕ)
withdrawals_by h T rs = cond (eqb h.stronger 0) (map (λ r. none) rs) (withdrawals T rs)

-- ── What stays ──────────────────────────────────────────────────────────────────────────────────────────────

-- "Withdrawn changes leave before planning": of what stands in step with the changes, that of those which stay
unfoldable pub staying : {A : Type 0} → List (Option ℕ) → List A → List A
staying [] l = []
staying (w ∷ ws) [] = []
staying (w ∷ ws) (x ∷ l) = let rest = staying ws l in elim w [ none ↦ x ∷ rest | some k ↦ rest ]

-- "numbers count withdrawn changes too": the numbers of those that stay
unfoldable pub numbers_left : List (Option ℕ) → List ℕ
numbers_left ws = staying ws (map (λ w. w.0) (numbered 0 ws))
