-- The writer's work slices as one value: what they hold, and that they stay the slices that were lent.
-- Assumes nothing.
use Rattle.std.specs.Prelude.{◌≡◌, List, [], ◌∷◌, ℕ}
use Rattle.write_batch.specs.declared.Work.{Work}

-- what each slice holds, in the order of docs/WORK.md
abbrev pub held : Work → List (List ℕ)
held w = w.draft.now ∷ w.table.now ∷ w.source.now ∷ []

-- each slice is the one that was lent
abbrev pub Same : Work → Work → Type 0
Same v w = (v.draft.ghost_name ≡ w.draft.ghost_name) × (v.table.ghost_name ≡ w.table.ghost_name) × (v.source.ghost_name ≡ w.source.ghost_name)
