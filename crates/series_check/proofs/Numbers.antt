-- The numbers of bookmarks: gathered side by side, and the library's test of them is the definition's.
-- Assumes nothing.
use Rattle.std.specs.List.{list_any, range_with_len}
use Rattle.std.specs.Prelude.{◌≡◌, refl, Bool, true, false, not, ◌&&◌, ◌||◌, eqb, List, [], ◌∷◌, ◌++◌, map, ℕ, zero, suc, ◌+◌, ◌-◌, ◌^◌, ◌≤◌, ◌<◌, length, get_or, set, take, drop}
use Rattle.std.proofs.Common.{sym, ap, ◌∙◌, append_assoc, append-nil, add-one, arith, length-set, take_all, take-suc-set, eqb-true}
use Rattle.std.proofs.Math.ListN.{drop_of_length-le}
use Rattle.std.proofs.Math.Seq.{drop-cons}
use Rattle.definition.specs.Basics.{any, among}
use Rattle.check_laws.specs.Check.{no_repeat}
use Rattle.series_check.specs.Slots.{slot_at, numbers_from, slots_none, slots_more}

-- ── Gathered ────────────────────────────────────────────────────────────────────────────────────────────────

module _ (b : List ℕ) (k : ℕ) where
  numbers_more : (i : ℕ) → i < k → numbers_from b k i ≡ get_or (slot_at b i) 0 0 ∷ numbers_from b k (i + 1)
  unfolding numbers_from
  numbers_more i h = ap (map (λ s. get_or s 0 0)) (slots_more b k i h)

  numbers_none : (i : ℕ) → k ≤ i → numbers_from b k i ≡ []
  unfolding numbers_from
  numbers_none i h = ap (map (λ s. get_or s 0 0)) (slots_none b k i h)

-- the first i of them stand
pub record Gathering (b : List ℕ) (k : ℕ) (l : List ℕ) (i : ℕ) : Type 0 where
  pub inside : i ≤ k
  pub long : length l ≡ k
  pub told : take i l ++ numbers_from b k i ≡ numbers_from b k 0

pub gathering_start : (b : List ℕ) (k : ℕ) (l : List ℕ) → length l ≡ k → Gathering b k l 0
gathering_start b k l h = record { inside = omega arith; long = h; told = refl }

module _ {b : List ℕ} {k : ℕ} {l : List ℕ} {i : ℕ} (v : Gathering b k l i) where
  pub gathering_next : i < length l → {x : ℕ} → (x ≡ get_or (slot_at b i) 0 0) × (x < 2 ^ 32) → Gathering b k (set l i x) (i + 1)
  gathering_next h {x} e =
      let more : numbers_from b k i ≡ x ∷ numbers_from b k (i + 1) = numbers_more b k i (omega (arith, v.long)) ∙ ap {B = List ℕ} (λ (y : ℕ). y ∷ numbers_from b k (i + 1)) (sym e.0) in
      record {
        inside = omega (arith, v.long);
        long = length-set l i x ∙ v.long;
        told = rw (add-one i) (ap (λ (p : List ℕ). p ++ numbers_from b k (suc i)) (take-suc-set l i x h) ∙ (append_assoc (take i l) (x ∷ []) (numbers_from b k (suc i)) ∙ (ap (λ (p : List ℕ). take i l ++ p) (sym (rw (add-one i) at more)) ∙ v.told)));
      }

  pub gathering_done : length l ≤ i → l ≡ numbers_from b k 0
  gathering_done h = sym (append-nil l) ∙ (ap (λ (p : List ℕ). p ++ []) (sym (take_all i l h)) ∙ (ap (λ (p : List ℕ). take i l ++ p) (sym (numbers_none b k i (omega (arith, v.long)))) ∙ v.told))

-- ── Tested ──────────────────────────────────────────────────────────────────────────────────────────────────

either_way : (x y : ℕ) → eqb y x ≡ eqb x y
either_way x y = go (eqb x y) refl
  where
    go : (t : Bool) → eqb x y ≡ t → eqb y x ≡ eqb x y
    go true e = let z : x ≡ y = eqb-true x y e in rw z
    go false e = last (eqb y x) refl
      where
        last : (s : Bool) → eqb y x ≡ s → eqb y x ≡ eqb x y
        last true f = let z : y ≡ x = eqb-true y x f in rw z
        last false f = f ∙ sym e

-- the library's test of a list is the definition's
pub contained : (x : ℕ) (l : List ℕ) → list_any (λ y. eqb y x) l ≡ among l x
unfolding among any
contained x [] = refl
contained x (y ∷ l) = rw (either_way x y, contained x l)

module _ (l : List ℕ) where
  -- whether the number at i stands again
  abbrev pub again : ℕ → Bool
  again i = among (drop (i + 1) l) (get_or l i 0)

  pub repeat_listed : (i n : ℕ) → length l - i ≡ n → list_any again (range_with_len i n) ≡ not (no_repeat (drop i l))
  unfolding no_repeat
  repeat_listed i zero h = sym (ap (λ l. not (no_repeat l)) (drop_of_length-le l {i = i} (omega arith)))
  repeat_listed i (suc n) h =
      let more : drop i l ≡ get_or l i 0 ∷ drop (i + 1) l = rw (add-one i) (drop-cons l i 0 (omega arith)) in
      ap (λ (t : Bool). again i || t) (repeat_listed (i + 1) n (omega arith)) ∙ (either (again i) (no_repeat (drop (i + 1) l)) ∙ sym (ap (λ l. not (no_repeat l)) more))
    where
      either : (x y : Bool) → (x || not y) ≡ not (not x && y)
      either true y = refl
      either false y = refl
