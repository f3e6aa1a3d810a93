-- Stronger rules first on the words of the element table and of the change rows: which rows are withdrawn, and which stay.
-- Assumes nothing.
use Rattle.std.specs.Prelude.{◌≡◌, Bool, cond, ◌&&◌, ◌||◌, List, [], ◌∷◌, ◌++◌, map, ℕ, zero, suc, ◌+◌, ◌-◌, ◌*◌, ◌≤◌, get_or, take, drop, ltb, eqb}
use Rattle.std.proofs.Math.Option.{Option, none, some}
use Rattle.definition.specs.Basics.{insert_by}
use Rattle.definition_laws.specs.Basics.{up_from}
use Rattle.definition.specs.Withdrawing.{staying}
use Rattle.record_changes.specs.ChangeRow.{ChangeRow, rows_of}
use Rattle.record_changes.specs.ChangeRowLaws.{row_at}

-- ── Overlap ─────────────────────────────────────────────────────────────────────────────────────────────────

-- "each starts before the other ends"
unfoldable pub crosses : ChangeRow → ChangeRow → Bool
crosses r s = ltb r.from s.to && ltb s.from r.to

-- "both remove the same element, those below included": each removes an interval of elements, and the two meet
unfoldable pub shares : List ℕ → ChangeRow → ChangeRow → Bool
shares w r s = ltb r.target (get_or w (8 * s.end + 6) 0) && ltb s.target (get_or w (8 * r.end + 6) 0)

-- r gives way to s if s is kept: "it overlaps a kept one of a higher number in the same tree and at the same parent depth"
unfoldable pub gives_way : List ℕ → ChangeRow → ChangeRow → Bool
gives_way w r s = ltb r.rule s.rule && (eqb r.tree s.tree && (eqb r.depth s.depth && (crosses r s || shares w r s)))

-- ── Places. The table's words are w, the rows' words v ──────────────────────────────────────────────────────

module _ (w v : List ℕ) where
  -- the first of these places to which that at k gives way, index + 1; 0 = none
  unfoldable pub stronger : ℕ → List ℕ → ℕ
  stronger k [] = 0
  stronger k (j ∷ js) = cond (gives_way w (row_at v k) (row_at v j)) (suc j) (stronger k js)

  -- those kept so far, and those still to take
  unfoldable pub keeping : List ℕ → List ℕ → List ℕ
  keeping ks [] = ks
  keeping ks (k ∷ l) = keeping (cond (eqb (stronger k ks) 0) (ks ++ (k ∷ [])) ks) l

  -- under which of those kept the change at place k is withdrawn; insertions stay
  unfoldable pub withdrawn_at : List ℕ → ℕ → ℕ
  withdrawn_at ks k = cond (eqb (row_at v k).rank 0) 0 (stronger k ks)

module _ (v : List ℕ) where
  -- y is taken before x: it has a higher number
  unfoldable pub comes : ℕ → ℕ → Bool
  comes y x = ltb (row_at v x).rule (row_at v y).rule

  -- of m places from i on those of replacements and runs, as they are taken
  unfoldable pub taken_from : ℕ → ℕ → List ℕ
  taken_from i zero = []
  taken_from i (suc m) = cond (eqb (row_at v i).rank 0) (taken_from (suc i) m) (insert_by comes i (taken_from (suc i) m))

module _ (w v : List ℕ) (n : ℕ) where
  -- the places kept of n
  unfoldable pub kept : List ℕ
  kept = keeping w v [] (taken_from v 0 n)

  -- under which place each of n is withdrawn, index + 1; 0 = it stays
  unfoldable pub withdrawals : List ℕ
  withdrawals = map (withdrawn_at w v kept) (up_from 0 n)

-- a place so told
unfoldable pub told : ℕ → Option ℕ
told p = cond (eqb p 0) none (some (p - 1))

-- the number of the change at place k of those that stay, of the words p, which tell from number i on; 0 past the end
unfoldable pub number_at : ℕ → List ℕ → ℕ → ℕ
number_at i [] k = 0
number_at i (p ∷ ps) k = cond (eqb p 0) (cond (eqb k 0) i (number_at (suc i) ps (k - 1))) (number_at (suc i) ps k)

-- ── What the functions leave ────────────────────────────────────────────────────────────────────────────────

-- the list l' tells at its front of n places what is withdrawn under those kept; behind them it is l
abbrev pub Written : List ℕ → List ℕ → List ℕ → ℕ → List ℕ → List ℕ → Type 0
Written w v ks n l l' = l' ≡ map (withdrawn_at w v ks) (up_from 0 n) ++ drop n l

-- r rows are left of the n in v, those that p withdraws gone
pub record Left (n : ℕ) (p v v' : List ℕ) (r : ℕ) : Type 0 where
  pub rows : rows_of r v' ≡ staying (map told (take n p)) (rows_of n v)
  pub few : r ≤ n

-- WHAT IS WITHDRAWN of n rows, and what is left of them
pub record Withdrawn (w : List ℕ) (n : ℕ) (v v' p p' : List ℕ) (r : ℕ) : Type 0 where
  pub places : p' ≡ withdrawals w v n ++ drop n p
  pub rows : rows_of r v' ≡ staying (map told (withdrawals w v n)) (rows_of n v)
  pub few : r ≤ n
