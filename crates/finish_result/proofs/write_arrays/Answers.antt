-- `write_arrays` meets its contract: four arrays, one behind another.
use mathlib.Core.Path.{◌≡◌, sym, ap, ◌∙◌}
use Prim.Native.Nat.{◌+◌, ◌*◌}
use native.Mathlib.Omega.{arith}
use lib.ListN.{get_or}
use borrow.Author.Rules.{rules}
use Rattle.run_annotations.specs.Changed.{changed_of}
use Rattle.finish_result.specs.Arrays.{note_column, length_column, column_at, element_column, rule_column, length_parts, part_at_lem}
use Rattle.finish_result.proofs.Turns.{arrays_written}
use Rattle.finish_result.proofs.write_arrays.Goals as goal

pub returns : goal.returns
returns c =
    let changed = c.args.changed.now in
    let notes = c.args.notes.now in
    arrays_written c.args.at changed notes c.args.b.now
    (c.write_column.ensures (element_column changed) (length_parts (λ c. c.row) changed) (λ i x h e. let z : x ≡ (changed_of (get_or changed i 0)).row = search rules in z ∙ sym (part_at_lem (λ c. c.row) changed i h)))
    (c.write_column-2.ensures (rule_column changed) (length_parts (λ c. c.rule) changed) (λ i x h e. let z : x ≡ (changed_of (get_or changed i 0)).rule = search rules in z ∙ sym (part_at_lem (λ c. c.rule) changed i h)))
    (c.write_column-3.ensures (note_column 1 notes) (length_column 1 notes) (λ i x h e. let z : x ≡ get_or notes (3 * i + 1) 0 = search rules in z ∙ sym (column_at 1 notes i (omega arith) h)))
    (c.write_column-4.ensures (note_column 0 notes) (length_column 0 notes) (λ i x h e. let z : x ≡ get_or notes (3 * i) 0 = search rules in let k : 3 * i ≡ 3 * i + 0 = omega arith in z ∙ (ap (λ k. get_or notes k 0) k ∙ sym (column_at 0 notes i (omega arith) h))))
