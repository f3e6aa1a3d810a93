-- The work slices as one value: what they hold, and that they stay the slices that were lent.
-- Assumes nothing.
use Rattle.std.specs.Prelude.{◌≡◌, List, [], ◌∷◌, ℕ}
use Rattle.promises.specs.declared.Work.{Work}

-- what each slice holds, in the order of docs/WORK.md
abbrev pub held : Work → List (List ℕ)
held w = w.table.now ∷ w.source.now ∷ w.changes.now ∷ w.notes.now ∷ w.incoming.now ∷ w.changed.now ∷ w.marks.now ∷ w.rows.now ∷ w.prepared.now ∷ []

-- each slice is the one that was lent
abbrev pub Same : Work → Work → Type 0
Same v w = (v.table.ghost_name ≡ w.table.ghost_name) × (v.source.ghost_name ≡ w.source.ghost_name) × (v.changes.ghost_name ≡ w.changes.ghost_name)
    × (v.notes.ghost_name ≡ w.notes.ghost_name) × (v.incoming.ghost_name ≡ w.incoming.ghost_name) × (v.changed.ghost_name ≡ w.changed.ghost_name)
    × (v.marks.ghost_name ≡ w.marks.ghost_name) × (v.rows.ghost_name ≡ w.rows.ghost_name) × (v.prepared.ghost_name ≡ w.prepared.ghost_name)
