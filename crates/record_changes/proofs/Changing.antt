-- Each answer of the functions on one change, from the tests that led there.
-- Assumes nothing.
use mathlib.Core.Bool.{Bool, true, false}
use mathlib.Core.List.{List, [], ◌∷◌, head_d}
use mathlib.Core.Path.{◌≡◌, refl, ◌∙◌}
use Prim.Native.Nat.{ℕ, zero, suc, ◌+◌, ◌-◌, ◌*◌, ◌^◌, ◌≤◌, ◌<◌}
use native.Mathlib.Omega.{arith}
use lib.ListN.{get_or}
use lib.Dec.{eqb}
use borrow.Author.Tests.{eq-eqb, ne_eqb}
use Rattle.definition.specs.Elements.{is_node}
use Rattle.read_element_table.specs.View.{view}
use Rattle.read_element_table.specs.Wellformed.{Wellformed}
use Rattle.record_changes.specs.Numbers.{numbers_of, place_operation, region_number, as_change, run_asked, change_asked, change_by}
use Rattle.record_changes.specs.Spots.{spot_of, Named, spot_in, insertion_in, run_in, above_word, region_by, region_under, spot_insert, spot_replace, spot_delete, spot_many, spot_run}
use Rattle.record_changes.specs.declared.Place.{Place}
use Rattle.record_changes.specs.declared.Place.TheVariants.{FirstChild, After}
use Rattle.record_changes.specs.declared.Region.{Region}
use Rattle.record_changes.specs.declared.Region.TheVariants.{None, Discarding, NodeByNode}
use Rattle.record_changes.specs.declared.Listed.{Listed}
use Rattle.record_changes.specs.declared.Change.{Change}
use Rattle.record_changes.specs.declared.Change.TheVariants.{Insert, Replace, Delete, ReplaceWithMany, ReplaceAll}
use Rattle.record_changes.specs.declared.Spot.{Spot}
use Rattle.read_calls.specs.Operations.{operation_number}

-- ── The change that a call asks for ─────────────────────────────────────────────────────────────────────────

pub run_equal : (x y : ℕ) (l : Listed) → x ≡ y → ReplaceWithMany x l ≡ run_asked x y l
unfolding run_asked
run_equal x y l e = rw (eq-eqb x y e)

pub run_apart : (x y : ℕ) (l : Listed) → (x ≡ y → ⊥) → ReplaceAll x y l ≡ run_asked x y l
unfolding run_asked
run_apart x y l e = rw (ne_eqb x y e)

-- of the operations below 5 a call asks for the change with its numbers
by_number : (op x at k y : ℕ) → op < 5 → change_by op x x (record { at = at; count = k }) ≡ change_asked op x at k y
unfolding change_by change_asked
by_number zero x at k y h = refl
by_number (suc zero) x at k y h = refl
by_number (suc (suc zero)) x at k y h = refl
by_number (suc (suc (suc zero))) x at k y h = refl
by_number (suc (suc (suc (suc zero)))) x at k y h = refl
by_number (suc (suc (suc (suc (suc op))))) x at k y h = absurd (omega arith)

pub asked_by : (op x at k y : ℕ) {r : Change} → op < 5 → r ≡ change_by op x x (record { at = at; count = k }) → r ≡ change_asked op x at k y
asked_by op x at k y h e = e ∙ by_number op x at k y h

pub asked_run : (op x at k y j : ℕ) {r : Change} → 5 ≤ op → j ≡ k - 1 → r ≡ run_asked x y (record { at = at + 1; count = j }) → r ≡ change_asked op x at k y
unfolding change_asked
asked_run op x at k y j h f g =
    let a : op ≡ 0 → ⊥ = omega arith in
    let b : op ≡ 1 → ⊥ = omega arith in
    let c : op ≡ 2 → ⊥ = omega arith in
    let d : op ≡ 3 → ⊥ = omega arith in
    let e : op ≡ 4 → ⊥ = omega arith in
    rw (ne_eqb op 0 a, ne_eqb op 1 b, ne_eqb op 2 c, ne_eqb op 3 d, ne_eqb op 4 e, ← f) g

-- ── Its operation and rank are words ────────────────────────────────────────────────────────────────────────

place_low : (p : Place) → operation_number (place_operation p) < 2 ^ 32
place_low FirstChild = omega arith
place_low After = omega arith

pub numbers_low : (c : Change) → ((numbers_of c).operation < 2 ^ 32) × ((numbers_of c).rank < 2 ^ 32)
numbers_low (Insert p x l) = (place_low p, omega arith)
numbers_low (Replace x at) = (omega arith, omega arith)
numbers_low (Delete x at) = (omega arith, omega arith)
numbers_low (ReplaceWithMany x l) = (omega arith, omega arith)
numbers_low (ReplaceAll x y l) = (omega arith, omega arith)

-- ── What planning needs ─────────────────────────────────────────────────────────────────────────────────────

module _ (w : List ℕ) (x v : ℕ) (t : Bool) (e : v ≡ get_or w (8 * x + 3) 0) (f : t ≡ eqb (get_or w (8 * x + 1) 0) 0) where
  pub above_root : t ≡ true → v ≡ above_word w x
  unfolding above_word
  above_root q = rw (← f, q) e

  pub above_child : t ≡ false → v - 1 ≡ above_word w x
  unfolding above_word
  above_child q = rw (← f, q, e)

module _ (s : List ℕ) (x : ℕ) (r : Region) (t : Bool) (f : t ≡ is_node (get_or s (3 * suc x) 0)) where
  pub region_node : t ≡ true → r ≡ region_by s x r
  unfolding region_by
  region_node q = rw (← f, q)

  pub region_token : t ≡ false → None ≡ region_by s x r
  unfolding region_by
  region_token q = rw (← f, q)

module _ (s : List ℕ) (y : ℕ) (t : Bool) (f : t ≡ is_node (get_or s (3 * suc y) 0)) where
  pub under_node : t ≡ true → NodeByNode ≡ region_under s y
  unfolding region_under
  under_node q = rw (← f, q)

  pub under_token : t ≡ false → Discarding ≡ region_under s y
  unfolding region_under
  under_token q = rw (← f, q)

pub spot_made : (w : List ℕ) (x a y b d : ℕ) (r : Region) (t f u : ℕ) → t ≡ get_or w (8 * x + 7) 0 → f ≡ get_or w (8 * x + a) 0 → u ≡ get_or w (8 * y + b) 0 → ◌≡◌ {A = Spot} (record { tree = t; from = f; to = u; depth = d; region = region_number r }) (spot_in w x a y b d r)
spot_made w x a y b d r t f u e g h = rw (e, g, h)

-- its region is a word
pub region_low : (r : Region) → region_number r < 2 ^ 32
region_low None = omega arith
region_low Discarding = omega arith
region_low NodeByNode = omega arith

-- of an insertion and of a run
pub insertion_first : (w : List ℕ) {p : Place} (x : ℕ) {d : ℕ} {r : Spot} → p ≡ FirstChild → d ≡ get_or w (8 * x + 3) 0 → r ≡ spot_in w x 4 x 4 d None → r ≡ insertion_in w p x
insertion_first w x e f g = rw (e, ← f) g

pub insertion_after : (w : List ℕ) {p : Place} (x : ℕ) {d : ℕ} {r : Spot} → p ≡ After → d ≡ above_word w x → r ≡ spot_in w x 5 x 5 d None → r ≡ insertion_in w p x
insertion_after w x e f g = rw (e, ← f) g

pub run_at : (w : List ℕ) (x y : ℕ) (q : Region) {d : ℕ} {r : Spot} → d ≡ above_word w x → r ≡ spot_in w x 4 y 5 d q → r ≡ run_in w x y q
run_at w x y q f g = rw (← f) g

-- ── What a change names stands in the table ─────────────────────────────────────────────────────────────────

module _ {n : ℕ} {w s : List ℕ} {c : Change} (W : Wellformed n w s) (N : Named n c) where
  named : {d : Change} → c ≡ d → ((numbers_of d).target < n) × ((numbers_of d).end < n)
  named e = (rw e at N.target, rw e at N.end)

  -- ── and is told as the definition says ────────────────────────────────────────────────────────────────────

  module _ {r : Spot} (y : ℕ) where
    pub told_insert : {p : Place} {x : ℕ} {l : Listed} → c ≡ Insert p x l → r ≡ insertion_in w p x → r ≡ spot_of (view n w s) (as_change (y ∷ []) c)
    told_insert {p} {x} e f = rw e (f ∙ spot_insert n w s W x (named e).0 p (y ∷ []))

    pub told_replace : {x at : ℕ} {b q : Region} → y < n → c ≡ Replace x at → b ≡ region_under s y → q ≡ region_by s x b → r ≡ run_in w x x q → r ≡ spot_of (view n w s) (as_change (y ∷ []) c)
    unfolding head_d
    told_replace {x} h e f g k = rw e (k ∙ (rw (g, f) (spot_replace n w s W x (named e).0 y h)))

    pub told_delete : {x at : ℕ} {q : Region} → c ≡ Delete x at → q ≡ region_by s x Discarding → r ≡ run_in w x x q → r ≡ spot_of (view n w s) (as_change (y ∷ []) c)
    told_delete {x} e g k = rw e (k ∙ rw g (spot_delete n w s W x (named e).0))

    pub told_many : {x : ℕ} {q : Region} {l : Listed} → c ≡ ReplaceWithMany x l → q ≡ region_by s x Discarding → r ≡ run_in w x x q → r ≡ spot_of (view n w s) (as_change (y ∷ []) c)
    told_many {x} e g k = rw e (k ∙ rw g (spot_many n w s W x (named e).0 (y ∷ [])))

    pub told_run : {x z : ℕ} {l : Listed} → c ≡ ReplaceAll x z l → r ≡ run_in w x z Discarding → r ≡ spot_of (view n w s) (as_change (y ∷ []) c)
    told_run {x} {z} e k = rw e (k ∙ spot_run n w s W x (named e).0 z (named e).1 (y ∷ []))
