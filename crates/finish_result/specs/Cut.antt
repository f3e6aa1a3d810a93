-- Notes and changed elements stand at the front of longer words: what the cut words tell is what those tell.
-- Assumes nothing.
use Rattle.std.specs.Prelude.{◌≡◌, List, ℕ, ◌*◌, ◌/◌, ◌^◌, ◌≤◌, ◌<◌, length, take, Result as Returned}
use Rattle.std.proofs.Common.{ap, arith, length-take-le, get_or-take, take_all}
use mathlib.Core.List.{map}
use Rattle.run_annotations.specs.Changed.{changed_of, changed_in}
use Rattle.run_annotations.specs.Notes.{notes_of, notes_same}
use Rattle.run_tree_store.specs.Stored.{stored}
use Rattle.refusals.specs.declared.Refusal.{Refusal}
use Rattle.finish_model.specs.Finished.{result_of}
use Rattle.finish_result.specs.Answered.{Answered}
use Rattle.finish_result.specs.Weighed.{Weighs}

module _ (k c : ℕ) (notes changed : List ℕ) (h : 3 * k ≤ length notes) (i : c ≤ length changed) where
  notes_cut : notes_of (length (take (3 * k) notes) / 3) (take (3 * k) notes) ≡ notes_of k notes
  notes_cut =
      let e : length (take (3 * k) notes) ≡ 3 * k = length-take-le (3 * k) notes h in
      let f : length (take (3 * k) notes) / 3 ≡ k = omega arith in
      rw f (notes_same (take (3 * k) notes) notes k (λ j a. get_or-take (3 * k) notes j 0 a))

  changed_cut : changed_in (length (take c changed)) (take c changed) ≡ changed_in c changed
  unfolding changed_in
  changed_cut = ap (map changed_of) (take_all (length (take c changed)) (take c changed) (omega arith))

  -- they are as few
  pub cut_few : k < 2 ^ 16 → c < 2 ^ 16 → (length (take (3 * k) notes) < 3 * 2 ^ 16) × (length (take c changed) < 2 ^ 16)
  cut_few a b = (omega (arith, length-take-le (3 * k) notes h), omega (arith, length-take-le c changed i))

  pub cut_answered : (text rows : List ℕ) (n discarded climbs : ℕ) {d out : List ℕ} {a : Returned ℕ Refusal}
      → ((marks : List ℕ) → Answered d (result_of discarded climbs (stored text n rows marks (notes_of (length (take (3 * k) notes) / 3) (take (3 * k) notes)) (changed_in (length (take c changed)) (take c changed)))) out a)
      → (marks : List ℕ) → Answered d (result_of discarded climbs (stored text n rows marks (notes_of k notes) (changed_in c changed))) out a
  cut_answered text rows n discarded climbs f marks = rw (notes_cut, changed_cut) at (f marks)

  pub cut_weighs : {text rows : List ℕ} {n r : ℕ} → Weighs text n rows (notes_of (length (take (3 * k) notes) / 3) (take (3 * k) notes)) (changed_in (length (take c changed)) (take c changed)) r → Weighs text n rows (notes_of k notes) (changed_in c changed) r
  cut_weighs w = rw (notes_cut, changed_cut) at w
