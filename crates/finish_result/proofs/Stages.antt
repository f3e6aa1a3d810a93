-- From what the run leaves to the new tree in order, and from there to the words that are written.
-- Assumes nothing.
use mathlib.Core.Path.{◌≡◌, sym, ap, ◌∙◌}
use mathlib.Core.List.{List, [], map, flat_map}
use Prim.Native.Nat.{ℕ, ◌+◌, ◌-◌, ◌*◌, ◌/◌, ◌^◌, ◌≤◌, ◌<◌}
use native.Mathlib.Nat.{zero-add}
use native.Mathlib.Numerals.{add-one}
use native.Mathlib.Omega.{arith}
use lib.ListN.{length, take, drop, length-drop}
use lib.Seq.{paste, take-paste, take-take, take_all, length-take-le, get_or-take}
use Rattle.rows_model.specs.Row.{Row, own, bytes, skip, triples, first_rows}
use Rattle.rows_model.specs.Place.{rows_after, between, subtree}
use Rattle.rows_model.proofs.Words.{length_triples, length_first, triples_take, words_between}
use Rattle.rows_syntax_node.specs.Promises.{After, Part}
use Rattle.rows_syntax_node.proofs.Turns.{part_made}
use Rattle.run_model.specs.Store.{HeldNote, HeldChanged}
use Rattle.run_annotations.specs.Promises.{note_in}
use Rattle.run_annotations.specs.Changed.{changed_of, changed_in}
use Rattle.run_annotations.specs.Notes.{notes_of, notes_same}
use Rattle.run_tree_store.specs.Stored.{stored}
use Rattle.finish_model.specs.Finished.{first_tree, starts, result_of}
use Rattle.finish_arrays.specs.declared.Extent.{Extent}
use Rattle.finish_arrays.specs.Starts.{Starts, length_starts}
use Rattle.finish_arrays.specs.Scanned.{Scanned}
use Rattle.finish_arrays.specs.NewTree.{tree_bytes}
use Rattle.finish_arrays.specs.TextSizes.{bytes_part}
use Rattle.finish_sort.specs.Keys.{element_in}
use Rattle.finish_sort.specs.Counted.{Counts}
use Rattle.finish_sort.specs.Sorted.{ChangedSorted, NotesSorted}
use Rattle.std.specs.Prelude.{Result}
use Rattle.refusals.specs.declared.Refusal.{Refusal}
use Rattle.finish_result.specs.InTree.{result_in, changed_by, notes_by, result_in_lem}
use Rattle.finish_result.specs.Weighed.{Weighs, parts_weigh}
use Rattle.finish_result.specs.Answered.{Answered}
use Rattle.finish_result.specs.Arrays.{told_result}

-- ── In order ────────────────────────────────────────────────────────────────────────────────────────────────

-- the notes of the words from a note on
notes_part : (r : ℕ) (w : List ℕ) → r ≤ length w / 3 → notes_of (length (take (length w - 3 * r) (drop (3 * r) w)) / 3) (take (length w - 3 * r) (drop (3 * r) w)) ≡ notes_of (length w / 3 - r) (drop (3 * r) w)
notes_part r w h =
    let e : length (take (length w - 3 * r) (drop (3 * r) w)) ≡ length w - 3 * r = length-take-le (length w - 3 * r) (drop (3 * r) w) (omega (arith, length-drop (3 * r) w)) in
    let f : length (take (length w - 3 * r) (drop (3 * r) w)) / 3 ≡ length w / 3 - r = omega arith in
    rw f (notes_same (take (length w - 3 * r) (drop (3 * r) w)) (drop (3 * r) w) (length w / 3 - r) (λ j a. get_or-take (length w - 3 * r) (drop (3 * r) w) j 0 (omega arith)))

module _ (d tree starts text changed notes : List ℕ) (discarded climbs : ℕ) where
  pub tree_answered : {changed' notes' : List ℕ} {from first : ℕ} {out : List ℕ} {a : Result ℕ Refusal} → ChangedSorted changed (length changed) (length tree / 3 + 1) starts changed' from → NotesSorted notes (length notes / 3) (length tree / 3 + 1) starts notes' first
      → Answered d (told_result discarded climbs tree text (take (length changed' - from) (drop from changed')) (take (length notes' - 3 * first) (drop (3 * first) notes'))) out a
      → Answered d (result_in discarded climbs (triples text tree) (changed_by starts (length tree / 3) (changed_in (length changed) changed)) (notes_by starts (length tree / 3) (notes_of (length notes / 3) notes))) out a
  unfolding changed_by notes_by changed_in
  tree_answered {changed'} {notes'} {from} {first} {out} {a} p q w =
      let e : map changed_of (take (length changed' - from) (drop from changed')) ≡ changed_by starts (length tree / 3) (changed_in (length changed) changed) =
      ap (λ (n : ℕ). map changed_of (take (n - from) (drop from changed'))) p.long ∙ (p.numbers ∙ rw (add-one (length tree / 3))) in
      let f : notes_of (length (take (length notes' - 3 * first) (drop (3 * first) notes')) / 3) (take (length notes' - 3 * first) (drop (3 * first) notes')) ≡ notes_by starts (length tree / 3) (notes_of (length notes / 3) notes) =
      notes_part first notes' (omega (arith, q.high, q.long)) ∙ (ap (λ (n : ℕ). notes_of (n / 3 - first) (drop (3 * first) notes')) q.long ∙ (q.notes ∙ rw (add-one (length tree / 3)))) in
      rw (← e, ← f) w

-- ── From what the run leaves ────────────────────────────────────────────────────────────────────────────────

module _ {rows : List ℕ} {n : ℕ} {tree : List ℕ} (p : Part rows n 1 tree) where
  -- the words that list the starts are those of the new tree
  starts_listed : (text : List ℕ) (d l : List ℕ) → length tree ≤ 3 * length d → l ≡ paste d 0 (starts 0 (triples text tree)) (length tree / 3) → take (length tree / 3) l ≡ starts 0 (triples text tree)
  starts_listed text d l h e =
      let S : List ℕ = starts 0 (triples text tree) in
      let m : length S ≡ length tree / 3 = length_starts 0 (triples text tree) ∙ length_triples text tree in
      ap (take (length tree / 3)) e ∙ (ap (λ i. take i (paste d 0 S (length tree / 3))) (sym (zero-add (length tree / 3))) ∙ (take-paste d 0 S (length tree / 3) (omega arith) (omega arith) ∙ take_all (length tree / 3) S (omega arith)))

  -- r rows, of which the starts are listed
  whole_answered : (d text starts₀ : List ℕ) (notes : List HeldNote) (changed : List HeldChanged) (discarded climbs : ℕ) {r : ℕ} {starts' out : List ℕ} {a : Result ℕ Refusal} → length tree ≡ 3 * r → r ≤ length starts₀ → Starts tree starts₀ starts'
      → Answered d (result_in discarded climbs (triples text tree) (changed_by (take r starts') (length tree / 3) changed) (notes_by (take r starts') (length tree / 3) notes)) out a
      → (marks : List ℕ) → Answered d (result_of discarded climbs (stored text n rows marks notes changed)) out a
  unfolding stored first_tree
  whole_answered d text starts₀ notes changed discarded climbs {r} {starts'} k h f w marks =
      let T : List Row = triples text tree in
      let z : length tree / 3 ≡ r = omega arith in
      let e : take r starts' ≡ starts 0 T = ap (λ n. take n starts') (sym z) ∙ starts_listed text starts₀ starts' (omega arith) (f.listed text) in
      let m : length tree / 3 ≡ length T = sym (length_triples text tree) in
      let t : T ≡ subtree (first_rows text n rows) 1 = p.told text in
      let g : result_of discarded climbs (stored text n rows marks notes changed) ≡ result_in discarded climbs T (changed_by (starts 0 T) (length T) changed) (notes_by (starts 0 T) (length T) notes) =
      result_in_lem discarded climbs (stored text n rows marks notes changed) ∙ rw (← t) in
      rw (g, ← e, ← m) w

-- the rows of all trees, of which tree 0 is the first
module _ (rows : List ℕ) (n : ℕ) {trees : List ℕ} (long : 3 * n ≤ length rows) (few : n < 2 ^ 16) (some : 1 ≤ n) (e : trees ≡ take (3 * n - 3 * 1) (drop (3 * 1) rows)) where
  length_trees : length trees ≡ 3 * n - 3
  length_trees = ap length e ∙ length-take-le (3 * n - 3 * 1) (drop (3 * 1) rows) (omega (arith, length-drop (3 * 1) rows))

  -- read as rows, they are all but the root of all
  trees_told : (text : List ℕ) → triples text trees ≡ take (n - 1) (drop 1 (first_rows text n rows))
  unfolding between
  trees_told text = ap (triples text) e ∙ words_between text n rows 1 n some (omega arith)

  -- the walk may begin
  pub may_scan : (d : List ℕ) → n ≤ length d + 1 → bytes (first_rows [] n rows) < 2 ^ 32 → (length trees ≤ 3 * length d) × (length trees < 3 * 2 ^ 16) × (bytes (triples [] trees) < 2 ^ 32)
  may_scan d room light = (omega (arith, length_trees), omega (arith, length_trees), omega (arith, ap bytes (trees_told []), bytes_part 1 (n - 1) (first_rows [] n rows)))

  -- the tree that the walk finds is tree 0
  scanned_part : {r : ℕ} → After trees (length trees / 3) 0 1 r → Part rows n 1 (take (3 * r) trees)
  unfolding rows_after
  scanned_part {r} v = part_made rows (take (3 * r) trees) n 1 (1 + r) (long, few, some) (record { row = row; low = omega arith; high = omega (arith, v.high, length_trees) }) told
    where
      row : (text : List ℕ) → 1 + r ≡ 1 + skip 1 (drop 1 (first_rows text n rows))
      row text =
          let rs = drop 1 (first_rows text n rows) in
          let whole : take (length trees / 3) (triples text trees) ≡ triples text trees = take_all (length trees / 3) (triples text trees) (omega (arith, length_triples text trees)) in
          let all : take (n - 1) rs ≡ rs = take_all (n - 1) rs (omega (arith, length-drop 1 (first_rows text n rows), length_first text n rows long)) in
          let here : first_rows text (length trees / 3) trees ≡ rs = triples_take text (length trees / 3) trees ∙ (whole ∙ (trees_told text ∙ all)) in
          omega (arith, v.row text, ap (skip 1) here)

      told : take (3 * r) trees ≡ take (3 * (1 + r) - 3 * 1) (drop (3 * 1) rows)
      told =
          let z : 3 * (1 + r) - 3 * 1 ≡ 3 * r = omega arith in
          rw z (ap (take (3 * r)) e ∙ take-take (3 * r) (3 * n - 3 * 1) (drop (3 * 1) rows) (omega (arith, v.high, length_trees)))

  pub finish_answered : (d starts₀ : List ℕ) (notes : List HeldNote) (changed : List HeldChanged) (discarded climbs : ℕ) {text starts' out : List ℕ} {x : Extent} {a : Result ℕ Refusal} → n ≤ length starts₀ + 1 → Scanned trees text starts₀ starts' x
      → Answered d (result_in discarded climbs (triples text (take (3 * x.rows) trees)) (changed_by (take x.rows starts') (length (take (3 * x.rows) trees) / 3) changed) (notes_by (take x.rows starts') (length (take (3 * x.rows) trees) / 3) notes)) out a
      → (marks : List ℕ) → Answered d (result_of discarded climbs (stored text n rows marks notes changed)) out a
  finish_answered d starts₀ notes changed discarded climbs {text} {x = x} room v w marks =
      let high : 3 * x.rows ≤ length trees = omega (arith, v.rows.high) in
      whole_answered (scanned_part v.rows) d text starts₀ notes changed discarded climbs (length-take-le (3 * x.rows) trees high) (omega (arith, length_trees)) v.starts w marks

-- ── How many bytes ──────────────────────────────────────────────────────────────────────────────────────────

-- tree 0, and how large it is
module _ {rows : List ℕ} {n : ℕ} {tree : List ℕ} (p : Part rows n 1 tree) where
  pub tree_light : bytes (first_rows [] n rows) < 2 ^ 32 → bytes (triples [] tree) < 2 ^ 32
  tree_light h = tree_bytes p [] h

  pub tree_weighs : (text : List ℕ) (notes : List HeldNote) (changed : List HeldChanged) (k c : ℕ) {size x y r : ℕ} → (size ≡ length (flat_map own (triples text tree))) × (size < 2 ^ 32)
      → Counts (element_in 1 (length tree / 3 + 1)) changed c x → Counts (note_in 1 (length tree / 3 + 1)) notes k y → r ≡ 24 + 8 * (length tree / 3) + 8 * x + 8 * y + size → Weighs text n rows notes changed r
  tree_weighs text notes changed k c s u v g = parts_weigh text notes changed k c p s u v g
