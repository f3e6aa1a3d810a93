use Rattle.run_prepare.specs.Parts.{words_in}
use lib.ListN.{length}
use mathlib.Core.Path.{◌≡◌}
use Rattle.run_execute.proofs.Walking.{Walking}
use Rattle.run_execute.proofs.run_steps.Given as goal

abbrev pub invariant-loop-k : goal.invariant-loop-k
invariant-loop-k l =
    Walking (length l.initial.marks) l.task.table.now l.task.source.now l.task.first.now (words_in l.task.listed.now) l.task.changes.now l.running (length l.initial.changed) l.initial.s l.initial.rows l.initial.marks l.initial.notes l.initial.changed l.s l.rows l.marks l.notes l.changed l.k-index
    × (length l.rows ≡ length l.initial.rows) × (length l.marks ≡ length l.initial.marks) × (length l.notes ≡ length l.initial.notes) × (length l.changed ≡ length l.initial.changed) × (length l.prepared ≡ length l.initial.prepared) × (length l.sizes ≡ length l.initial.sizes) × (length l.incoming ≡ length l.initial.incoming)
