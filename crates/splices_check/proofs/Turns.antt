-- What each way out and each turn of a loop knows.
-- Assumes nothing.
use Rattle.std.specs.List.{list_all, sum, range_with_len}
use Rattle.std.proofs.lemmas.List.FromFn.{sum_by-map-range_with_len_more}
use mathlib.Core.Path.{◌≡◌, refl, sym, ap, ◌∙◌}
use mathlib.Core.Bool.{Bool, true, false}
use mathlib.Core.List.{List, [], ◌∷◌, map}
use Prim.Native.Nat.{ℕ, zero, suc, ◌+◌, ◌-◌, ◌*◌, ◌/◌, ◌^◌, ◌≤◌, ◌<◌}
use native.Mathlib.Omega.{arith}
use native.Mathlib.Nat.{sub-zero, zero-add}
use native.Mathlib.Numerals.{add-one}
use lib.Dec.{eqb}
use lib.ListN.{length, get_or, take, drop}
use borrow.Author.Tests.{ltb-true}
use Rattle.orders.specs.ListLaws.{both_true}
use Rattle.rows_syntax_node.specs.Promises.{Counted}
use Rattle.rows_model.specs.Row.{Row, owes, row_in, triples}
use Rattle.rows_model.proofs.Words.{triples_at, triples_end}
use Rattle.splices_model.specs.Bounds.{rows_to}
use Rattle.splices_model.specs.Verdict.{owed, closed, bounded_at, fit_at, fits_to, limited, roomy, judged_by, all_alike, fits_each}
use Rattle.splices_apart.specs.Promises.{RowsTo, ApartAll}
use Rattle.splices_check.specs.Promises.{Closes, FitsAll, OneTree, Fitted, Judged}

-- ── Whole trees ─────────────────────────────────────────────────────────────────────────────────────────────

-- o elements are owed behind the first i rows
pub record Owing (run : List ℕ) (o i : ℕ) : Type 0 where
  pub inside : 3 * i ≤ length run
  pub small : o ≤ 2 ^ 32 * i
  pub rest : (text : List ℕ) → owed 0 (triples text run) ≡ owed o (drop i (triples text run))

pub owing_start : (run : List ℕ) → Owing run 0 0
owing_start run = record { inside = omega arith; small = omega arith; rest = λ text. refl }

owed_cons : (o : ℕ) (l l' : List Row) (r : Row) → l ≡ r ∷ l' → owed o l ≡ owed (o - 1 + owes r) l'
unfolding owed
owed_cons zero l l' r e = rw (e, zero-add (owes r))
owed_cons (suc o) l l' r e = let q : suc o - 1 ≡ o = omega arith in rw (e, q)

module _ {run : List ℕ} {o i : ℕ} (v : Owing run o i) where
  pub owing_next : {m x : ℕ} → i < length run / 3 → x ≡ o - 1 → Counted run i m → Owing run (x + m) (i + 1)
  owing_next h e c = record {
    inside = omega arith;
    small = omega (arith, v.small, c.small);
    rest = λ text. rw (e, add-one i) (v.rest text ∙ rw (owed_cons o _ _ (row_in text run i) (triples_at text i run (omega arith)), ← c.count text));
  }

  pub owing_done : length run / 3 ≤ i → Closes run (eqb o 0)
  unfolding closed owed
  owing_done h = record { says = λ text. sym (ap (λ n. eqb n 0) (v.rest text ∙ ap (owed o) (triples_end text i run (omega arith)))) }

-- ── Every splice ────────────────────────────────────────────────────────────────────────────────────────────

-- the library's test of each is the definition's
pub all_listed : {rows : List ℕ} {e : ℕ} {s p : List ℕ} {c : ℕ} {r : Bool} → ((text : List ℕ) → r ≡ list_all (fit_at text rows e s p) (range_with_len 0 c)) → FitsAll rows e s p c r
unfolding fits_to
all_listed {rows} {e} {s} {p} {c} h = record { says = λ text. h text ∙ all_alike _ (fits_to text rows e s p) refl (λ k. refl) c }

-- ── One tree ────────────────────────────────────────────────────────────────────────────────────────────────

pub from_the_first : (rows : List ℕ) (e : ℕ) {r : Bool} → OneTree (take (3 * e - 0) rows) r → OneTree (take (3 * e) rows) r
from_the_first rows e t = rw (sub-zero (3 * e)) at t

-- ── Room ────────────────────────────────────────────────────────────────────────────────────────────────────

-- the rows that splice k brings
abbrev pub rows_at : List ℕ → ℕ → ℕ
rows_at s k = get_or s (6 * k + 5) 0

-- the library's sum over all splices is the definition's
pub summed : (s : List ℕ) (c : ℕ) → sum (map (rows_at s) (range_with_len 0 c)) ≡ rows_to s c
unfolding rows_to
summed s zero = refl
summed s (suc c) = ap (λ n. sum (map (rows_at s) (range_with_len 0 n))) (sym (add-one c)) ∙ (sum_by-map-range_with_len_more (λ x. x) (rows_at s) 0 c c (zero-add c) ∙ ap (λ n. n + rows_at s c) (summed s c))

-- ── The verdict ─────────────────────────────────────────────────────────────────────────────────────────────

pub fits_rows : {rows : List ℕ} {e : ℕ} {s p : List ℕ} {c : ℕ} {b : Bool} → FitsAll rows e s p c b → b ≡ true → RowsTo e s c
unfolding fit_at bounded_at
fits_rows {rows} {e} {s} {p} {c} f z =
    record { row = λ j h. ltb-true (get_or s (6 * j + 1) 0) e (both_true _ _ (both_true _ _ (fits_each [] rows e s p c j h (sym (f.says []) ∙ z))).0).0 }

module _ (rows : List ℕ) (e : ℕ) {s p : List ℕ} {c : ℕ} {b : Bool} (B : OneTree (take (3 * e) rows) b) where
  pub no_tree : b ≡ false → Fitted rows e s p c 3
  no_tree z = record { says = λ text. rw (← B.says text, z) }

  module _ (y : b ≡ true) {f : Bool} (F : FitsAll rows e s p c f) where
    pub unfit : f ≡ false → Fitted rows e s p c 4
    unfit z = record { says = λ text. rw (← B.says text, y, ← F.says text, z) }

    module _ (z : f ≡ true) {a : Bool} (A : ApartAll rows e s c a) where
      pub not_apart : a ≡ false → Fitted rows e s p c 5
      not_apart w = record { says = λ text. rw (← B.says text, y, ← F.says text, z, ← A.says text p, w) }

      pub all_fitted : a ≡ true → Fitted rows e s p c 0
      all_fitted w = record { says = λ text. rw (← B.says text, y, ← F.says text, z, ← A.says text p, w) }

module _ {rows : List ℕ} {e : ℕ} {s p : List ℕ} {c : ℕ} {b : Bool} (B : b ≡ limited e s p c) where
  pub beyond_limits : b ≡ false → Judged rows e s p c 1
  unfolding judged_by
  beyond_limits z = record { says = λ text. rw (← B, z) }

  module _ (y : b ≡ true) {d : Bool} (D : d ≡ roomy (length rows) e s c) where
    pub roomless : d ≡ false → Judged rows e s p c 2
    unfolding judged_by
    roomless z = record { says = λ text. rw (← B, y, ← D, z) }

    pub all_judged : {r : ℕ} → d ≡ true → Fitted rows e s p c r → Judged rows e s p c r
    unfolding judged_by
    all_judged z f = record { says = λ text. f.says text ∙ rw (← B, y, ← D, z) }
