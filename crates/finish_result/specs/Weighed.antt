-- How many bytes the result has, told from what the run leaves before anything is sorted.
-- Assumes nothing.
use Rattle.std.specs.Prelude.{◌≡◌, ℕ, suc, ◌+◌, ◌*◌, ◌/◌, ◌^◌, ◌<◌, length}
use Rattle.std.proofs.Common.{sym, ap, ◌∙◌, arith}
use mathlib.Core.List.{List, flat_map}
use Rattle.std.proofs.lemmas.List.{length-map}
use Rattle.orders.specs.Lists.{pick}
use Rattle.definition.specs.Finishing.{encoded}
use Rattle.definition_laws.specs.Sorting.{rising_length}
use Rattle.rows_model.specs.Row.{Row, kind, measure, own, triples, first_rows}
use Rattle.rows_model.specs.Place.{subtree}
use Rattle.rows_model.proofs.Words.{length_triples}
use Rattle.rows_syntax_node.specs.Promises.{Part}
use Rattle.run_model.specs.Store.{HeldNote, HeldChanged, Store}
use Rattle.run_annotations.specs.Promises.{note_in}
use Rattle.run_tree_store.specs.Stored.{stored}
use Rattle.finish_model.specs.Finished.{first_tree, starts, result_of}
use Rattle.finish_arrays.specs.Encoding.{encoded_length}
use Rattle.finish_sort.specs.Counted.{Counts}
use Rattle.finish_sort.specs.Keys.{element_in, start_key, note_key}
use Rattle.finish_result.specs.InTree.{result_in, changed_by, notes_by, result_in_lem}

-- the result from these rows, notes and changed elements has r bytes, whatever is discarded and climbed
pub record Weighs (text : List ℕ) (n : ℕ) (rows : List ℕ) (notes : List HeldNote) (changed : List HeldChanged) (r : ℕ) : Type 0 where
  pub bytes : (discarded climbs : ℕ) (marks : List ℕ) → r ≡ length (encoded (result_of discarded climbs (stored text n rows marks notes changed)))

-- the result of a store has 24 bytes for its sizes, 8 for each element, changed element and note of tree 0, and the text
store_weighs : (discarded climbs : ℕ) (s : Store)
    → length (encoded (result_of discarded climbs s)) ≡ 24 + 8 * length (first_tree s.rows) + 8 * length (pick (element_in 1 (suc (length (first_tree s.rows)))) s.changed)
    + 8 * length (pick (note_in 1 (suc (length (first_tree s.rows)))) s.notes) + length (flat_map own (first_tree s.rows))
unfolding result_in changed_by notes_by
store_weighs discarded climbs s =
    let T : List Row = first_tree s.rows in
    let S : List ℕ = starts 0 T in
    let C : List HeldChanged = changed_by S (length T) s.changed in
    let N : List HeldNote = notes_by S (length T) s.notes in
    ap (λ r. length (encoded r)) (result_in_lem discarded climbs s)
    ∙ (encoded_length (result_in discarded climbs T C N)
    ∙ omega (
      arith,
      length-map T kind,
      length-map T measure,
      length-map C (λ c. c.row),
      length-map C (λ c. c.rule),
      length-map N (λ n. n.number),
      length-map N (λ n. n.row),
      rising_length (start_key S) (pick (element_in 1 (suc (length T))) s.changed),
      rising_length (note_key S) (pick (note_in 1 (suc (length T))) s.notes),
    ))

-- the parts counted, the size is told
pub parts_weigh : (text : List ℕ) (notes : List HeldNote) (changed : List HeldChanged) (k c : ℕ) {rows : List ℕ} {n : ℕ} {tree : List ℕ} {size x y r : ℕ} → Part rows n 1 tree
    → (size ≡ length (flat_map own (triples text tree))) × (size < 2 ^ 32) → Counts (element_in 1 (length tree / 3 + 1)) changed c x → Counts (note_in 1 (length tree / 3 + 1)) notes k y
    → r ≡ 24 + 8 * (length tree / 3) + 8 * x + 8 * y + size → Weighs text n rows notes changed r
unfolding stored first_tree
parts_weigh text notes changed k c {rows} {n} {tree} {size} {x} {y} {r} p s u v e = record { bytes = told }
  where
    T : List Row
    T = subtree (first_rows text n rows) 1

    long : length tree / 3 ≡ length T
    long = sym (length_triples text tree) ∙ ap length (p.told text)

    told : (discarded climbs : ℕ) (marks : List ℕ) → r ≡ length (encoded (result_of discarded climbs (stored text n rows marks notes changed)))
    told discarded climbs marks =
        let f : suc (length T) ≡ length tree / 3 + 1 = omega (arith, long) in
        let w = rw f at (store_weighs discarded climbs (stored text n rows marks notes changed)) in
        let z : size ≡ length (flat_map own T) = s.0 ∙ ap (λ (l : List Row). length (flat_map own l)) (p.told text) in
        omega (arith, w, long, u.count, v.count)
