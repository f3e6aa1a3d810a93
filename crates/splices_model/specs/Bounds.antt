-- The words of a list of splices in bounds: what keeps every step within the slices.
-- Assumes nothing.
use Rattle.std.specs.Prelude.{◌≡◌, refl, List, ℕ, zero, suc, ◌+◌, ◌*◌, ◌≤◌, ◌<◌, length, drop, get_or}
use Rattle.std.proofs.Common.{inl, inr, arith, length-drop, length-take-le}
use Rattle.orders.specs.ListLaws.{lt_or_le}
use Rattle.splices_model.specs.Cuts.{part_at}

-- the words of splice j are in bounds, where the old tree has E rows
pub record Bounded (E : ℕ) (splices prepared : List ℕ) (j : ℕ) : Type 0 where
  pub inside : 6 * j + 5 < length splices
  pub parent : get_or splices (6 * j + 1) 0 < E
  pub ordered : get_or splices (6 * j + 2) 0 ≤ get_or splices (6 * j + 3) 0
  pub within : get_or splices (6 * j + 3) 0 ≤ E
  pub part : 3 * get_or splices (6 * j + 4) 0 + 3 * get_or splices (6 * j + 5) 0 ≤ length prepared

-- those of splice i and of each before it
pub record BoundedTo (E : ℕ) (splices prepared : List ℕ) (i : ℕ) : Type 0 where
  pub last : Bounded E splices prepared i
  pub each : (j : ℕ) → j < i → Bounded E splices prepared j

-- those of the first c splices
pub record BoundedAll (E : ℕ) (splices prepared : List ℕ) (c : ℕ) : Type 0 where
  pub all : (j : ℕ) → j < c → Bounded E splices prepared j

-- the prepared rows of the first k splices, all together
unfoldable pub rows_to : List ℕ → ℕ → ℕ
rows_to splices zero = 0
rows_to splices (suc k) = rows_to splices k + get_or splices (6 * k + 5) 0

pub rows_to_more : (splices : List ℕ) (k : ℕ) → rows_to splices (suc k) ≡ rows_to splices k + get_or splices (6 * k + 5) 0
unfolding rows_to
rows_to_more splices k = refl

-- the first k are some of the first c
pub rows_to_mono : (splices : List ℕ) (c k : ℕ) → k ≤ c → rows_to splices k ≤ rows_to splices c
unfolding rows_to
rows_to_mono splices zero zero h = omega arith
rows_to_mono splices zero (suc k) h = absurd (omega arith)
rows_to_mono splices (suc c) k h = elim (lt_or_le k (suc c)) [
  | inl w ↦ omega (arith, rows_to_mono splices c k (omega arith))
  | inr w ↦ let e : k ≡ suc c = omega arith in rw e (omega arith)
]

pub bounded_to : {E : ℕ} {splices prepared : List ℕ} {c k : ℕ} → BoundedAll E splices prepared c → k < c → BoundedTo E splices prepared k
bounded_to h k = record { last = h.all _ k; each = λ j l. h.all j (omega arith) }

-- ── The prepared rows of a splice ───────────────────────────────────────────────────────────────────────────

pub part_long : (s p : List ℕ) (j : ℕ) → 3 * get_or s (6 * j + 4) 0 + 3 * get_or s (6 * j + 5) 0 ≤ length p → length (part_at s p j) ≡ 3 * get_or s (6 * j + 5) 0
part_long s p j h = length-take-le (3 * get_or s (6 * j + 5) 0) (drop (3 * get_or s (6 * j + 4) 0) p) (simp length-drop (omega arith))
