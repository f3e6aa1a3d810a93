-- The library's tests of all splices are the definition's.
-- Assumes nothing.
use Rattle.std.specs.List.{list_all, range_with_len}
use mathlib.Core.Path.{◌≡◌, refl, ◌∙◌}
use mathlib.Core.Bool.{Bool}
use mathlib.Core.List.{List}
use Prim.Native.Nat.{ℕ}
use Rattle.orders.proofs.Check.{each, pairs}
use Rattle.rows_model.specs.Row.{Row, first_rows}
use Rattle.splices_model.specs.Cuts.{cut_at, cuts_to}
use Rattle.splices_model.specs.Verdict.{apart_cut, all_alike}
use Rattle.splices_apart.specs.Promises.{ApartFrom, ApartAll}

-- splice k is apart from each before it
abbrev pub from_each : List ℕ → List ℕ → List ℕ → List Row → ℕ → Bool
from_each text s prepared rs k = each (apart_cut rs (cut_at text s prepared k)) (cuts_to text s prepared k)

module _ {rows : List ℕ} {e : ℕ} {s : List ℕ} {c : ℕ} {r : Bool} where
  pub from_listed : {i : ℕ} → ((text prepared : List ℕ) → r ≡ list_all (λ k. apart_cut (first_rows text e rows) (cut_at text s prepared i) (cut_at text s prepared k)) (range_with_len 0 c)) → ApartFrom rows e s i c r
  unfolding each cuts_to
  from_listed {i} h = record { says = λ text prepared. h text prepared ∙ all_alike _ (λ k. each (apart_cut (first_rows text e rows) (cut_at text s prepared i)) (cuts_to text s prepared k)) refl (λ k. refl) c }

  pub all_listed : ((text prepared : List ℕ) → r ≡ list_all (from_each text s prepared (first_rows text e rows)) (range_with_len 0 c)) → ApartAll rows e s c r
  unfolding each pairs cuts_to
  all_listed h = record { says = λ text prepared. h text prepared ∙ all_alike _ (λ k. pairs (apart_cut (first_rows text e rows)) (cuts_to text s prepared k)) refl (λ k. refl) c }
