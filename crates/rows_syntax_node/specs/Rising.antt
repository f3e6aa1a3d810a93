-- Marks that rise with the element's number, but for those of elements that are gone.
-- Assumes nothing.
use Rattle.std.specs.Prelude.{◌≡◌, refl, List, [], ◌∷◌, map, ℕ, zero, suc, ◌+◌, ◌≤◌, ◌<◌, length, get_or, drop}
use Rattle.std.proofs.Common.{arith, get_or-drop}
use Rattle.orders.specs.ListLaws.{before, inside, after, zone?}
use Rattle.orders.proofs.TreeLaws.{shift_before, shift_inside, shift_after}
use Rattle.definition_laws.specs.Basics.{up_from, up_at, up_long}
use Rattle.rows_model.specs.Place.{moved_mark}

-- of two marks that are not 0 the later is the greater
pub record Rising (marks : List ℕ) : Type 0 where
  pub order : (i j : ℕ) → i < j → 0 < get_or marks i 0 → 0 < get_or marks j 0 → get_or marks i 0 < get_or marks j 0

-- a place whose word is not 0 is one of the list
pub some_inside : (l : List ℕ) (i : ℕ) → 0 < get_or l i 0 → i < length l
some_inside [] i h = absurd (omega arith)
some_inside (x ∷ l) zero h = omega arith
some_inside (x ∷ l) (suc i) h = omega (arith, some_inside l i h)

-- numbers one after another
pub up_rising : (k n : ℕ) → Rising (up_from k n)
up_rising k n = record {
  order = λ i j h a b.
      let z : j < n = omega (arith, some_inside (up_from k n) j b, up_long k n) in
      rw (up_at k n i (omega arith), up_at k n j z) (omega arith);
}

-- marks from a place on
pub drop_rising : (n : ℕ) (l : List ℕ) → Rising l → Rising (drop n l)
drop_rising n l r = record { order = λ i j h. rw (get_or-drop n l i 0, get_or-drop n l j 0) (r.order (n + i) (n + j) (omega arith)) }

module _ (p q m : ℕ) (low : 0 < p) (o : p ≤ q) where
  -- what is moved at a place, past the end too
  pub get_moved : (l : List ℕ) (i : ℕ) → get_or (map (moved_mark p q m) l) i 0 ≡ moved_mark p q m (get_or l i 0)
  unfolding moved_mark
  get_moved [] i = rw (shift_before p q m 0 low)
  get_moved (x ∷ l) zero = refl
  get_moved (x ∷ l) (suc i) = get_moved l i

  moved_some : (x : ℕ) → 0 < moved_mark p q m x → 0 < x
  unfolding moved_mark
  moved_some zero h = rw (shift_before p q m 0 low) at h
  moved_some (suc x) h = omega arith

  moved_order : (x y : ℕ) → x < y → 0 < moved_mark p q m x → 0 < moved_mark p q m y → moved_mark p q m x < moved_mark p q m y
  unfolding moved_mark
  moved_order x y h a b = elim (zone? x p q) [
    | before w ↦ elim (zone? y p q) [
      | before u ↦ rw (shift_before p q m x w, shift_before p q m y u) h
      | inside u u' ↦ let z : ◌<◌ 0 0 = rw (shift_inside p q m y u u') at b in absurd (omega arith)
      | after u u' ↦ rw (shift_before p q m x w, shift_after p q m y u u') (omega arith)
    ]
    | inside w w' ↦ let z : ◌<◌ 0 0 = rw (shift_inside p q m x w w') at a in absurd (omega arith)
    | after w w' ↦ elim (zone? y p q) [
      | before u ↦ absurd (omega arith)
      | inside u u' ↦ let z : ◌<◌ 0 0 = rw (shift_inside p q m y u u') at b in absurd (omega arith)
      | after u u' ↦ rw (shift_after p q m x w w', shift_after p q m y u u') (omega arith)
    ]
  ]

  -- marks moved
  pub moved_rising : (l : List ℕ) → Rising l → Rising (map (moved_mark p q m) l)
  moved_rising l r = record {
    order = λ i j h. rw (get_moved l i, get_moved l j) (λ a b. moved_order (get_or l i 0) (get_or l j 0) (r.order i j h (moved_some (get_or l i 0) a) (moved_some (get_or l j 0) b)) a b);
  }
