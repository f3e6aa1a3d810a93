-- What `load` promises: the answer, and what each lent slice holds then, from the starting number and what was lent.
-- Assumes nothing.
use Rattle.std.specs.Prelude.{◌≡◌, true, false, List, ℕ, ◌≤◌, ◌<◌, length}
use Rattle.std.proofs.Math.Path.{refl}
use Rattle.definition.specs.Basics.{Answer, refused, gives, ◌>>=◌, refuse}
use Rattle.definition.specs.Answers.{too_short, with_work}
use Rattle.definition.specs.Writing.{laid_out}
use Rattle.promises.specs.Slices.{lengths}
use Rattle.promises.specs.Writing.{writer_needs, wrote, Writes}
use Rattle.load_laws.specs.Load as Load
use Rattle.load_laws.proofs.Good.{load_written, load_short}

-- THE PROMISE of `load`: "The writer lays it out, 15 included". So the writer's promise, of the lists of a starting number
abbrev pub Loads : ℕ → List ℕ → List (List ℕ) → Answer ℕ → List ℕ → List (List ℕ) → Type 0
Loads start held work r holds left = Writes (Load.load start) held work r holds left

-- ── By which numbers a load is refused ──────────────────────────────────────────────────────────────────────

module _ (work : List (List ℕ)) (start room : ℕ) where
  -- 1: a work slice is too short
  pub loads_1 : too_short (lengths writer_needs work) ≡ true → wrote work (Load.load start) room ≡ refused 1
  unfolding wrote with_work ◌>>=◌ refuse
  loads_1 e = rw e refl

  -- 15: there is no room
  pub loads_15 : too_short (lengths writer_needs work) ≡ false → room < length (laid_out (Load.load start)) → wrote work (Load.load start) room ≡ refused 15
  unfolding wrote with_work ◌>>=◌ refuse
  loads_15 e h = rw e (load_short start room h)

  -- else its bytes: never 14
  pub loads_bytes : too_short (lengths writer_needs work) ≡ false → length (laid_out (Load.load start)) ≤ room → wrote work (Load.load start) room ≡ gives (laid_out (Load.load start))
  unfolding wrote with_work ◌>>=◌ refuse
  loads_bytes e h = rw e (load_written start room h)
