-- The result from the rows of the new tree, its changed elements and its notes in order, and that it is the result from what is held.
-- Assumes nothing.
use Rattle.std.specs.Prelude.{◌≡◌, refl, ℕ, suc, length}
use Rattle.std.proofs.Math.Path.{ap}
use Rattle.std.proofs.Common.{◌∙◌}
use mathlib.Core.List.{List, [], ◌∷◌, map, flat_map}
use Rattle.std.proofs.Math.Option
use Rattle.std.proofs.Math.Option.{Option, none, some}
use Rattle.orders.specs.Lists.{more, pick}
use Rattle.definition.specs.Basics.{rising}
use Rattle.definition.specs.Finishing.{Result}
use Rattle.definition_laws.specs.Sorting.{map_rising}
use Rattle.rows_model.specs.Row.{Row, kind, measure, own}
use Rattle.rows_model.specs.Place.{rows_after}
use Rattle.run_model.specs.Store.{HeldNote, HeldChanged, Store, with_row}
use Rattle.run_annotations.specs.Promises.{note_in}
use Rattle.finish_model.specs.Finished.{first_tree, number_of, starts, start_of, changed_numbers, note_numbers, result_of}
use Rattle.finish_model.proofs.Numbers.{tree_end}
use Rattle.finish_sort.specs.Keys.{element_in, start_key, note_key}

-- the result, from the number of discarded changes, the climb steps, the rows of the new tree, its changed elements and its notes, whose rows are element numbers
unfoldable pub result_in : ℕ → ℕ → List Row → List HeldChanged → List HeldNote → Result
result_in discarded climbs rs changed notes = record {
  kinds = map kind rs;
  measures = map measure rs;
  changed = map (λ c. c.row) changed;
  rules = map (λ c. c.rule) changed;
  numbers = map (λ n. n.number) notes;
  noted = map (λ n. n.row) notes;
  text = flat_map own rs;
  discarded = discarded;
  climbs = climbs;
}

-- the changed elements of a new tree of m elements in order, from where the text of each starts and the changed elements that are held
unfoldable pub changed_by : List ℕ → ℕ → List HeldChanged → List HeldChanged
changed_by starts m changed = rising (start_key starts) (pick (element_in 1 (suc m)) changed)

-- its notes in order, from the notes that are held
unfoldable pub notes_by : List ℕ → ℕ → List HeldNote → List HeldNote
notes_by starts m notes = rising (note_key starts) (pick (note_in 1 (suc m)) notes)

-- ── The result ──────────────────────────────────────────────────────────────────────────────────────────────

-- each element told from what tells it
map_via : {X Y Z : Type 0} (g : X → Y) (f : Y → Z) (h : X → Z) → ((x : X) → f (g x) ≡ h x) → (l : List X) → map h l ≡ map f (map g l)
map_via g f h e [] = refl
map_via {X} {Y} {Z} g f h e (x ∷ l) = rw (e x, map_via g f h e l)

module _ (s : Store) where
  changed_in : changed_numbers s ≡ changed_by (starts 0 (first_tree s.rows)) (length (first_tree s.rows)) s.changed
  unfolding changed_numbers changed_by start_of number_of
  changed_in = ap (λ n. rising (start_key (starts 0 (first_tree s.rows))) (pick (element_in 1 n) s.changed)) (tree_end s.rows)

  -- a note of the new tree with its element for its row
  renumbered : HeldNote × ℕ → HeldNote
  renumbered m = with_row m.0 m.1

  notes_in : map renumbered (note_numbers s) ≡ notes_by (starts 0 (first_tree s.rows)) (length (first_tree s.rows)) s.notes
  unfolding renumbered note_numbers notes_by start_of number_of with_row pick
  notes_in =
      map_rising renumbered (λ m. m.0.number ∷ m.0.place ∷ start_of s.rows m.1 ∷ []) (note_key (starts 0 (first_tree s.rows))) (λ m. refl) (pick found s.notes)
      ∙ ap (rising (note_key (starts 0 (first_tree s.rows)))) (go s.notes ∙ ap (λ n. pick (note_in 1 n) s.notes) (tree_end s.rows))
    where
      found : HeldNote → Option (HeldNote × ℕ)
      found n = Option.map (λ e. (n, e)) (number_of s.rows n.row)

      one : (n : HeldNote) (o : Option ℕ) (r : List (HeldNote × ℕ)) → map renumbered (more (Option.map (λ e. (n, e)) o) r) ≡ more (Option.map (with_row n) o) (map renumbered r)
      one n none r = refl
      one n (some e) r = refl

      go : (l : List HeldNote) → map renumbered (pick found l) ≡ pick (note_in 1 (rows_after s.rows 1 1)) l
      go [] = refl
      go (n ∷ l) = one n (number_of s.rows n.row) (pick found l) ∙ ap (more (note_in 1 (rows_after s.rows 1 1) n)) (go l)

-- The result from what is held is the result from the new tree, its changed elements and its notes in order.
pub result_in_lem : (discarded climbs : ℕ) (s : Store) → result_of discarded climbs s ≡ result_in discarded climbs (first_tree s.rows) (changed_by (starts 0 (first_tree s.rows)) (length (first_tree s.rows)) s.changed) (notes_by (starts 0 (first_tree s.rows)) (length (first_tree s.rows)) s.notes)
unfolding result_of result_in renumbered with_row
result_in_lem discarded climbs s =
    same (ap (map (λ c. c.row)) (changed_in s)) (ap (map (λ c. c.rule)) (changed_in s))
    (map_via (renumbered s) (λ n. n.number) (λ m. m.0.number) (λ m. refl) (note_numbers s) ∙ ap (map (λ n. n.number)) (notes_in s))
    (map_via (renumbered s) (λ n. n.row) (λ m. m.1) (λ m. refl) (note_numbers s) ∙ ap (map (λ n. n.row)) (notes_in s))
  where
    of : List ℕ → List ℕ → List ℕ → List ℕ → Result
    of c r n e = record { kinds = map kind (first_tree s.rows); measures = map measure (first_tree s.rows); changed = c; rules = r; numbers = n; noted = e; text = flat_map own (first_tree s.rows); discarded = discarded; climbs = climbs }

    same : {c c' r r' n n' e e' : List ℕ} → c ≡ c' → r ≡ r' → n ≡ n' → e ≡ e' → of c r n e ≡ of c' r' n' e'
    same a b c d = rw (a, b, c, d)
