-- Edge rule 1 (document 02, Note 6): what becomes of each change by where it stands in the tree. Rule 0 (Planning) goes by offsets. "Sorting and overlap keep their rules."
-- Assumes nothing.
use Rattle.std.specs.Prelude.{Bool, false, cond, not, ◌&&◌, ◌||◌, List, [], ◌∷◌, map, ℕ, zero, suc, leb, ltb, eqb}
use Rattle.std.proofs.Math.Option.{Option, none, some, get_or}
use Rattle.definition.specs.Basics.{any, keep, numbered}
use Rattle.definition.specs.Choices.{Choices}
use Rattle.definition.specs.Elements.{Table, row, root?, parent, child}
use Rattle.definition.specs.Refusals.{same_parent}
use Rattle.definition.specs.Recording.{Recorded, first_child, after, Change, insert, replace, delete, replace_with_many, replace_all}
use Rattle.definition.specs.Planning.{Fate, own, parent_depth, adds_region, inner, overlap, fates, Planned, changes_of, with_fates, Judgement, overlaps, fated}

module _ (T : Table) where
  -- ── Where elements stand ──────────────────────────────────────────────────────────────────────────────────

  -- e is one of the siblings from x to y
  unfoldable pub in_run : ℕ → ℕ → ℕ → Bool
  in_run x y e = same_parent (parent T e) (parent T x) && leb (child T x) (child T e) && leb (child T e) (child T y)

  -- e is one of them or below one: one of its line is
  unfoldable pub at_or_below : ℕ → ℕ → ℕ → Bool
  at_or_below x y e = any (in_run x y) (row T e).line

  -- the parent of x; of a root, the root
  unfoldable pub parent_or_root : ℕ → ℕ
  parent_or_root x = get_or (parent T x) x

  -- "Call 0's target parent is its target, a root's the root."
  unfoldable pub target_parent : Change → ℕ
  target_parent (insert first_child x l) = x
  target_parent (insert after x l) = parent_or_root x
  target_parent (replace x y) = parent_or_root x
  target_parent (delete x) = parent_or_root x
  target_parent (replace_with_many x l) = parent_or_root x
  target_parent (replace_all x y l) = parent_or_root x

  -- ── Regions and what they take ────────────────────────────────────────────────────────────────────────────

  -- the change is "a root's replacement" (line 6 leaves only call 2)
  unfoldable pub of_root : Change → Bool
  of_root (insert p x l) = false
  of_root (replace x y) = root? T x
  of_root (delete x) = false
  of_root (replace_with_many x l) = false
  of_root (replace_all x y l) = false

  -- e is "at or below the replaced node or an element of the run"
  unfoldable pub removes : Change → ℕ → Bool
  removes (insert p x l) e = false
  removes (replace x y) e = at_or_below x x e
  removes (delete x) e = at_or_below x x e
  removes (replace_with_many x l) e = at_or_below x x e
  removes (replace_all x y l) e = at_or_below x y e

  -- "the change replaces only elements of the run" from x to y "or inserts between two of them"
  unfoldable pub only_in : ℕ → ℕ → Change → Bool
  only_in x y (insert first_child e l) = false
  only_in x y (insert after e l) = in_run x y e && not (eqb e y)
  only_in x y (replace e d) = in_run x y e
  only_in x y (delete e) = in_run x y e
  only_in x y (replace_with_many e l) = in_run x y e
  only_in x y (replace_all e d l) = in_run x y e && in_run x y d

  -- the change is a run from x to y
  unfoldable pub is_run_of : ℕ → ℕ → Change → Bool
  is_run_of x y (insert p e l) = false
  is_run_of x y (replace e d) = false
  is_run_of x y (delete e) = false
  is_run_of x y (replace_with_many e l) = false
  is_run_of x y (replace_all e d l) = eqb e x && eqb d y

  -- a run, at place k, has the change c (with its place) inside: "a run not .. itself or .. an equal one sorted later"
  unfoldable pub inside : ℕ → Change → ℕ × Change → Bool
  inside k (insert p x l) c = false
  inside k (replace x y) c = false
  inside k (delete x) c = false
  inside k (replace_with_many x l) c = false
  inside k (replace_all x y l) c = only_in x y c.1 && not (is_run_of x y c.1 && leb c.0 k)

  -- the change c belongs to the region of r, each with its place: "its target parent is at or below the replaced node or an element of the run, or the change replaces only elements
  -- of the run or inserts between two of them; a root's replacement belongs to none, a run not to itself or to an equal one sorted later"
  unfoldable pub takes : ℕ × Change → ℕ × Change → Bool
  takes r c = adds_region T r.1 && (not (of_root c.1) && (removes r.1 (target_parent c.1) || inside r.0 r.1 c))

  -- ── The innermost ─────────────────────────────────────────────────────────────────────────────────────────

  -- "the greatest depth of target parent, 0 for a root's replacement"
  unfoldable pub region_depth : Change → ℕ
  region_depth c = cond (of_root c) 0 (parent_depth T c)

  -- "Innermost means the greatest depth of target parent, 0 for a root's replacement, and among equals the last in sorted order."
  unfoldable pub innermost : List (ℕ × Change) → Option (ℕ × Change)
  innermost [] = none
  innermost (r ∷ rs) = elim (innermost rs) [ none ↦ some r | some s ↦ cond (ltb (region_depth s.1) (region_depth r.1)) (some r) (some s) ]

  -- "a change belongs to the innermost region of the whole batch such that .."
  unfoldable pub region_of : List (ℕ × Change) → ℕ × Change → Option (ℕ × Change)
  region_of all c = innermost (keep (λ r. takes r c) all)

  -- ── Fates ─────────────────────────────────────────────────────────────────────────────────────────────────

  -- what becomes of a change, by its region and by what becomes of that
  unfoldable pub fate_in : (ℕ × Change → Fate) → Option (ℕ × Change) → Fate
  fate_in fate none = own
  fate_in fate (some r) = inner T r.0 (fate r) r.1

  -- what becomes of c, if the regions one around another that decide it are at most n
  unfoldable pub fate_within : List (ℕ × Change) → ℕ → ℕ × Change → Fate
  fate_within all zero c = own
  fate_within all (suc n) c = fate_in (fate_within all n) (region_of all c)

  -- what becomes of c: regions that own are one around another at falling depths
  unfoldable pub fate_among : List (ℕ × Change) → ℕ × Change → Fate
  fate_among all c = fate_within all (suc (region_depth c.1)) c

  -- RULE 1: what becomes of each of the sorted changes
  unfoldable pub fates1 : List Change → List Fate
  fates1 cs = let all = numbered 0 cs in map (fate_among all) all

-- ── By the choice ───────────────────────────────────────────────────────────────────────────────────────────

module _ (h : Choices) (T : Table) where
  -- "edge rule 1 beside today's rule 0": the rule for fates
  unfoldable pub fates_by : List Change → List Fate
  fates_by cs = cond (eqb h.edge 0) (fates T cs) (fates1 T cs)

  -- sorted changes with what becomes of them
  unfoldable pub planned : List Recorded → List Planned
  planned rs = with_fates rs (fates_by (changes_of rs))

  -- sorted changes judged
  unfoldable pub judge : List Recorded → Judgement
  judge rs = elim (overlap T (changes_of rs)) [ none ↦ fated (planned rs) | some p ↦ overlaps p.0 p.1 ]
