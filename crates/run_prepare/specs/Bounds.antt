-- The sizes and the notes of what came in, and how large they are.
-- Assumes nothing.
use Rattle.std.specs.Prelude.{◌≡◌, refl, ℕ, ◌+◌, ◌^◌, ◌≤◌, ◌<◌, length, take, drop}
use Rattle.std.proofs.Common.{sym, ap, ◌∙◌, arith, length-append, length-take-le}
use mathlib.Core.List.{List, [], ◌∷◌, map, flat_map}
use Rattle.std.proofs.lemmas.List.{length-map}
use Rattle.orders.specs.Lists.{All}
use Rattle.orders.specs.ListLaws.{All-map}
use Rattle.definition.specs.Words.{words}
use Rattle.words.specs.Bytes.{length_words}
use Rattle.rows_model.specs.Row.{skip}
use Rattle.rows_model.proofs.RowLaws.{skip_le}
use Rattle.rows_model.specs.Place.{rows_after, subtree}
use Rattle.run_model.specs.Store.{HeldNote, HeldChanged, Store, end_row, Part, part_at, new_rows}
use Rattle.run_annotations.specs.Places.{part_rows}
use Rattle.run_prepare.specs.Yields.{came_in, part_sizes, part_in}
use Rattle.run_prepare.specs.Promises.{Came, ElementsPrepared}

-- ── Sizes ───────────────────────────────────────────────────────────────────────────────────────────────────

-- each is at most the number of all rows
pub sizes_low : (new : List Part) → All (λ n. n ≤ length (new_rows new)) (part_sizes new)
unfolding part_sizes new_rows flat_map
sizes_low [] = tt
sizes_low (y ∷ new) =
    let e = length-append y.rows (new_rows new) in
    (omega arith, All-map (λ n h. omega arith) (part_sizes new) (sizes_low new))

-- ── The rows of notes ───────────────────────────────────────────────────────────────────────────────────────

-- the row after an element and all that is below it, by its rows
pub end_row_lem : (s : Store) (m : ℕ) → end_row s m ≡ m + length (part_at s m).rows
unfolding part_at end_row rows_after subtree
end_row_lem s m = ap (λ (i : ℕ). m + i) (sym (length-take-le (skip 1 (drop m s.rows)) (drop m s.rows) (skip_le 1 (drop m s.rows))))

-- The parts that come in stand at the rows that come in.
pub parts_low : (at end : ℕ) (new : List Part) → at + length (new_rows new) ≤ end → All (λ x. x ≤ end) (part_rows at (part_sizes new))
unfolding new_rows flat_map part_sizes part_rows
parts_low at end [] h = tt
parts_low at end (y ∷ new) h =
    let e = length-append y.rows (new_rows new) in
    (omega arith, parts_low (at + length y.rows) end new (omega arith))

-- ── What is prepared ────────────────────────────────────────────────────────────────────────────────────────

module _ {rows : List ℕ} {n : ℕ} {source marks first : List ℕ} {notes : List HeldNote} {at : ℕ} {prepared sizes incoming : List ℕ} {m c : ℕ} where
  -- As many sizes as elements are listed.
  pub sizes_told : (count : ℕ) (bytes : List ℕ) → ElementsPrepared rows n source marks first notes (words count bytes) at prepared sizes incoming (came_in m c)
      → (text : List ℕ) (changed₀ changed : List HeldChanged) → take count sizes ≡ part_sizes (map (part_in rows n source marks first notes text changed₀ changed) (words count bytes))
  sizes_told count bytes P text changed₀ changed =
      let e : length (map (part_in rows n source marks first notes text changed₀ changed) (words count bytes)) ≡ count =
      length-map (words count bytes) (part_in rows n source marks first notes text changed₀ changed) ∙ length_words count bytes in
      ap (λ (i : ℕ). take i sizes) (sym e) ∙ ((P.parts text changed₀ changed).came m c refl).sizes

  -- each is small
  pub sizes_small : (count : ℕ) (bytes : List ℕ) → ElementsPrepared rows n source marks first notes (words count bytes) at prepared sizes incoming (came_in m c) → All (λ x. x < 2 ^ 16) (take count sizes)
  sizes_small count bytes P =
      let new : List Part = map (part_in rows n source marks first notes [] [] []) (words count bytes) in
      let C : Came [] new at prepared sizes incoming m c = (P.parts [] [] []).came m c refl in
      rw (sizes_told count bytes P [] [] []) (All-map (λ x h. omega (arith, C.many, C.few_rows)) (part_sizes new) (sizes_low new))

  -- and each part comes to stand among the rows that came in
  pub sizes_placed : (count : ℕ) (bytes : List ℕ) → ElementsPrepared rows n source marks first notes (words count bytes) at prepared sizes incoming (came_in m c) → All (λ x. x < 2 ^ 16) (part_rows 0 (take count sizes))
  sizes_placed count bytes P =
      let new : List Part = map (part_in rows n source marks first notes [] [] []) (words count bytes) in
      let C : Came [] new at prepared sizes incoming m c = (P.parts [] [] []).came m c refl in
      rw (sizes_told count bytes P [] [] []) (All-map (λ x h. omega (arith, C.many, C.few_rows)) (part_rows 0 (part_sizes new)) (parts_low 0 (length (new_rows new)) new (omega arith)))
