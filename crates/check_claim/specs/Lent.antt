-- The work slices as one value: what they hold, and that they stay the slices that were lent.
-- Assumes nothing.
use Rattle.std.specs.Prelude.{◌≡◌, List, [], ◌∷◌, ℕ, length}
use Rattle.check_claim.specs.declared.work.Work.{Work}

-- what each slice holds, in the order of docs/WORK.md
abbrev pub held : Work → List (List ℕ)
held w = w.before.now ∷ w.after.now ∷ w.partners.now ∷ w.marks.now ∷ []

-- each slice is the one that was lent
abbrev pub Same : Work → Work → Type 0
Same v w = (v.before.ghost_name ≡ w.before.ghost_name) × (v.after.ghost_name ≡ w.after.ghost_name) × (v.partners.ghost_name ≡ w.partners.ghost_name) × (v.marks.ghost_name ≡ w.marks.ghost_name)

-- each slice is as long as it was
pub record AsLong (v w : Work) : Type 0 where
  pub before : length w.before.now ≡ length v.before.now
  pub after : length w.after.now ≡ length v.after.now
  pub partners : length w.partners.now ≡ length v.partners.now
  pub marks : length w.marks.now ≡ length v.marks.now
