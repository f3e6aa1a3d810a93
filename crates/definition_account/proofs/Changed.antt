-- The paths of changed elements: none at first, what a splice makes of them, where they lead, their numbers in the new tree. All else that is said of changed elements rests on these four.
-- Assumes nothing.
use Rattle.std.specs.Prelude.{◌≡◌, refl, cond, ℕ, length}
use Rattle.std.proofs.Common.{◌∙◌}
use Rattle.std.proofs.Math.Option
use Rattle.std.proofs.Math.Option.{Option, none, some}
use mathlib.Core.List.Permᴰ
use mathlib.Core.List.{List, [], ◌∷◌, ◌++◌, map, map-map, Permᴰ}
use Rattle.orders.specs.Lists.{All, pick}
use Rattle.orders.specs.Tree.{Tree, Path, adjust}
use Rattle.orders.specs.ListLaws.{All-over, map_append}
use Rattle.definition.specs.Basics.{is_some}
use Rattle.definition.specs.Elements.{Table, row}
use Rattle.definition.specs.Rewriting.{Note}
use Rattle.definition.specs.Running.{Changed, World, begin, Yield, Run, placed, spliced}
use Rattle.definition.specs.Finishing.{number_at, changed_elements}
use Rattle.definition_laws.specs.Basics.{pick_firsts}
use Rattle.definition_laws.specs.Sorting.{rising_perm}
use Rattle.definition_laws.specs.Held.{Leads, Holds}
use Rattle.definition_account.specs.Words.{changed_paths, changed_in}

-- the places of what goes in
abbrev pub filled : Path → ℕ → List Yield → List Path
filled q a new = map (λ y. y.0) (placed q a new)

pub begin_changed : (ts : List (Tree ℕ)) (T : Table) (notes : List Note) → changed_paths (begin ts T notes) ≡ []
unfolding begin changed_paths
begin_changed ts T notes = refl

-- "Recorded changes and notes move alike", and what goes in stands behind them if it is recorded
pub spliced_changed : (w : World) (r : Run) (new : List Yield) (recorded : Option ℕ)
    → changed_paths (spliced r new recorded w) ≡ pick (adjust r.parent r.from r.to (length new)) (changed_paths w) ++ cond (is_some recorded) (filled r.parent r.from new) []
unfolding spliced changed_paths is_some
spliced_changed w r new recorded =
    map_append (λ c. c.0) (pick moved w.changed) (come recorded) ∙ rw (pick_firsts (adjust r.parent r.from r.to (length new)) w.changed, come_paths recorded)
  where
    moved : Changed → Option Changed
    moved c = Option.map (λ p. (p, c.1)) (adjust r.parent r.from r.to (length new) c.0)

    come : Option ℕ → List Changed
    come o = elim o [ none ↦ [] | some rule ↦ map (λ y. (y.0, rule)) (placed r.parent r.from new) ]

    come_paths : (o : Option ℕ) → map (λ c. c.0) (come o) ≡ cond (is_some o) (filled r.parent r.from new) []
    come_paths none = refl
    come_paths (some rule) = map-map (λ (c : Changed). c.0) (λ y. (y.0, rule)) (placed r.parent r.from new)

pub changed_lead : (w : World) → Holds w → All (Leads w.trees) (changed_paths w)
unfolding changed_paths
changed_lead w h = All-over (λ c. c.0) (λ (c : Changed). Leads w.trees c.0) (Leads w.trees) (λ c l. l) w.changed h.changed

-- the changed elements of the result are those of tree 0
pub changed_numbers : (F : Table) (w : World) → Permᴰ (pick (number_at F) (changed_paths w)) (changed_in F w)
unfolding changed_paths changed_in changed_elements
changed_numbers F w =
    let at : Changed → Option (ℕ × ℕ) = λ c. Option.map (λ e. (e, c.1)) (number_at F c.0) in
    rw (← pick_firsts (number_at F) w.changed) (Permᴰ.map (λ (m : ℕ × ℕ). m.0) (rising_perm (λ (m : ℕ × ℕ). (row F m.0).start ∷ []) (pick at w.changed)))
