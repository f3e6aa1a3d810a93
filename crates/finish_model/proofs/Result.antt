-- The result told from what is held in rows is the definition's.
-- Assumes nothing.
use Rattle.std.specs.Prelude.{◌≡◌, ℕ, length, take}
use Rattle.std.proofs.Math.Path.{refl}
use Rattle.std.proofs.Common.{sym, ap, ◌∙◌}
use mathlib.Core.List.{List, [], ◌∷◌, map, flat_map, append-nil}
use Rattle.std.proofs.Math.Option
use Rattle.std.proofs.Math.Option.{Option, none, some}
use Rattle.orders.specs.Lists.{pick}
use Rattle.orders.specs.ListLaws.{All-map}
use Rattle.orders.specs.Tree.{Tree, list, children, label, measure as measure_of, text, preorder}
use Rattle.definition.specs.Basics.{keep, rising}
use Rattle.definition.specs.Elements.{row}
use Rattle.definition.specs.Planning.{Planned, is_discarded}
use Rattle.definition.specs.Rewriting.{Note}
use Rattle.definition.specs.Running.{Changed, World}
use Rattle.definition.specs.Finishing.{new_tree, new_table, number_at, changed_elements, note_elements, Result, result}
use Rattle.definition_laws.specs.Sorting.{map_rising}
use Rattle.definition_laws.specs.Held.{Leads, Holds}
use Rattle.rows_model.specs.Row.{Row, kind, measure, own, rows_of, rows_all}
use Rattle.rows_model.proofs.RowLaws.{kinds_preorder, measures_preorder, text_tree}
use Rattle.run_model.specs.Store.{HeldNote, held_note, HeldChanged, held_changed, at_row, store}
use Rattle.run_model.proofs.Parts.{pick_square}
use Rattle.finish_model.specs.Finished.{number_of, start_of, changed_numbers, note_numbers, result_of}
use Rattle.finish_model.proofs.Numbers.{first_tree_lem, number_row, start_row}

-- ── Changed elements and notes ──────────────────────────────────────────────────────────────────────────────

-- a changed element of the new tree with its rule number, as the code holds it
unfoldable pub numbered_change : ℕ × ℕ → HeldChanged
numbered_change m = record { row = m.0; rule = m.1 }

pub changed_elements_lem : (w : World) → Holds w → changed_numbers (store w) ≡ map numbered_change (changed_elements (new_table w) w)
unfolding changed_numbers changed_elements store held_changed numbered_change at_row
changed_elements_lem w h =
    ap (rising key_held) (pick_square (held_changed w.trees) numbered_change found found_held w.changed (All-map one w.changed h.changed))
    ∙ sym (map_rising numbered_change key key_held (λ m. ap (λ s. s ∷ []) (sym (start_row w m.0))) (pick found w.changed))
  where
    key : ℕ × ℕ → List ℕ
    key m = (row (new_table w) m.0).start ∷ []

    key_held : HeldChanged → List ℕ
    key_held c = start_of (rows_of w.trees) c.row ∷ []

    found : Changed → Option (ℕ × ℕ)
    found c = Option.map (λ e. (e, c.1)) (number_at (new_table w) c.0)

    found_held : HeldChanged → Option HeldChanged
    found_held c = Option.map (at_row c) (number_of (rows_of w.trees) c.row)

    one : (c : Changed) → Leads w.trees c.0 → found_held (held_changed w.trees c) ≡ Option.map numbered_change (found c)
    one c l = ap (Option.map (at_row (held_changed w.trees c))) (number_row w c.0 l) ∙ told (number_at (new_table w) c.0)
      where
        told : (o : Option ℕ) → Option.map (at_row (held_changed w.trees c)) o ≡ Option.map numbered_change (Option.map (λ e. (e, c.1)) o)
        told none = refl
        told (some e) = refl

-- a note of the new tree with its row
unfoldable pub held_at : World → Note × ℕ → HeldNote × ℕ
held_at w m = (held_note w.trees m.0, m.1)

pub note_elements_lem : (w : World) → Holds w → note_numbers (store w) ≡ map (held_at w) (note_elements (new_table w) w)
unfolding note_numbers note_elements store held_at held_note
note_elements_lem w h =
    ap (rising key_held) (pick_square (held_note w.trees) (held_at w) found found_held w.notes (All-map one w.notes h.notes))
    ∙ sym (map_rising (held_at w) key key_held (λ m. ap (λ s. m.0.number ∷ m.0.place ∷ s ∷ []) (sym (start_row w m.1))) (pick found w.notes))
  where
    key : Note × ℕ → List ℕ
    key m = m.0.number ∷ m.0.place ∷ (row (new_table w) m.1).start ∷ []

    key_held : HeldNote × ℕ → List ℕ
    key_held m = m.0.number ∷ m.0.place ∷ start_of (rows_of w.trees) m.1 ∷ []

    found : Note → Option (Note × ℕ)
    found n = Option.map (λ e. (n, e)) (number_at (new_table w) n.path)

    found_held : HeldNote → Option (HeldNote × ℕ)
    found_held n = Option.map (λ e. (n, e)) (number_of (rows_of w.trees) n.row)

    one : (n : Note) → Leads w.trees n.path → found_held (held_note w.trees n) ≡ Option.map (held_at w) (found n)
    one n l = ap (Option.map (λ e. (held_note w.trees n, e))) (number_row w n.path l) ∙ told (number_at (new_table w) n.path)
      where
        told : (o : Option ℕ) → Option.map (λ e. (held_note w.trees n, e)) o ≡ Option.map (held_at w) (Option.map (λ e. (n, e)) o)
        told none = refl
        told (some e) = refl

-- ── The result ──────────────────────────────────────────────────────────────────────────────────────────────

-- what the rows of at most one tree tell is what the definition lists of it
module _ {X : Type 0} (f : Row → X) (g : Tree ℕ → X) (same : (t : Tree ℕ) → map f (rows_of t) ≡ map g (preorder t)) where
  pub one_told : (cs : List (Tree ℕ)) → map f (rows_all (take 1 cs)) ≡ map g (flat_map preorder (take 1 cs))
  unfolding flat_map
  one_told [] = refl
  one_told (c ∷ cs) = rw (append-nil (rows_of c), append-nil (preorder c)) (same c)

pub one_text : (cs : List (Tree ℕ)) → flat_map own (rows_all (take 1 cs)) ≡ flat_map text (take 1 cs)
unfolding flat_map
one_text [] = refl
one_text (c ∷ cs) = rw (append-nil (rows_of c), append-nil (text c)) (text_tree c)

numbers_held : (w : World) (ms : List (Note × ℕ)) → map (λ m. m.0.number) (map (held_at w) ms) ≡ map (λ m. m.0.number) ms
unfolding held_at held_note
numbers_held w [] = refl
numbers_held w (m ∷ ms) = ap {B = List ℕ} (λ l. m.0.number ∷ l) (numbers_held w ms)

elements_held : (w : World) (ms : List (Note × ℕ)) → map (λ m. m.1) (map (held_at w) ms) ≡ map (λ m. m.1) ms
unfolding held_at
elements_held w [] = refl
elements_held w (m ∷ ms) = ap {B = List ℕ} (λ l. m.1 ∷ l) (elements_held w ms)

rows_numbered : (ms : List (ℕ × ℕ)) → map (λ c. c.row) (map numbered_change ms) ≡ map (λ m. m.0) ms
unfolding numbered_change
rows_numbered [] = refl
rows_numbered (m ∷ ms) = ap {B = List ℕ} (λ l. m.0 ∷ l) (rows_numbered ms)

rules_numbered : (ms : List (ℕ × ℕ)) → map (λ c. c.rule) (map numbered_change ms) ≡ map (λ m. m.1) ms
unfolding numbered_change
rules_numbered [] = refl
rules_numbered (m ∷ ms) = ap {B = List ℕ} (λ l. m.1 ∷ l) (rules_numbered ms)

-- The result from what is held at the end, in rows, is the definition's.
pub result_rows : (ps : List Planned) (climbs : ℕ) (w : World) → Holds w → result_of (length (keep (λ p. is_discarded p.fate) ps)) climbs (store w) ≡ result ps climbs w
unfolding result_of result store new_tree
result_rows ps climbs w h =
    same
    (ap (map kind) (first_tree_lem w.trees) ∙ one_told kind label kinds_preorder (list (children w.trees)))
    (ap (map measure) (first_tree_lem w.trees) ∙ one_told measure measure_of measures_preorder (list (children w.trees)))
    (ap (map (λ c. c.row)) (changed_elements_lem w h) ∙ rows_numbered (changed_elements (new_table w) w))
    (ap (map (λ c. c.rule)) (changed_elements_lem w h) ∙ rules_numbered (changed_elements (new_table w) w))
    (ap (map (λ m. m.0.number)) (note_elements_lem w h) ∙ numbers_held w (note_elements (new_table w) w))
    (ap (map (λ m. m.1)) (note_elements_lem w h) ∙ elements_held w (note_elements (new_table w) w))
    (ap (flat_map own) (first_tree_lem w.trees) ∙ one_text (list (children w.trees)))
  where
    of : List ℕ → List ℕ → List ℕ → List ℕ → List ℕ → List ℕ → List ℕ → Result
    of k m c r n e t = record { kinds = k; measures = m; changed = c; rules = r; numbers = n; noted = e; text = t; discarded = length (keep (λ p. is_discarded p.fate) ps); climbs = climbs }

    same : {k k' m m' c c' r r' n n' e e' t t' : List ℕ} → k ≡ k' → m ≡ m' → c ≡ c' → r ≡ r' → n ≡ n' → e ≡ e' → t ≡ t' → of k m c r n e t ≡ of k' m' c' r' n' e' t'
    same a b c d e f g = rw (a, b, c, d, e, f, g)
