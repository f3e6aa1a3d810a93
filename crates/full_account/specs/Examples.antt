-- The account of batches that are written out, by computation: Note 13's condition holds, by either edge rule.
-- Assumes nothing.
use Rattle.std.specs.Prelude.{◌≡◌, refl, Bool, true, false, ◌&&◌, List, [], ◌∷◌, map, ℕ}
use Rattle.orders.specs.Lists
use Rattle.orders.proofs.Check.{each}
use Rattle.definition.specs.Basics.{Answer, gives, ◌>>=◌}
use Rattle.definition.specs.Answers.{edit}
use Rattle.definition.specs.Computing.{computed}
use Rattle.definition.specs.Examples.{Told, in_lists, in_bytes, call, on_s}
use Rattle.definition.specs.EdgeExamples.{edge, closing_call}
use Rattle.definition_demand.specs.Aims.{replaces_root}
use Rattle.definition_account.specs.Words.{went_to, count, old_elements, is?, old_at, dependent_in0, keeps_root, no_dependent_in0}
use Rattle.full_account.specs.Words.{trees_in, table_in, changed_above, in_run?, deleted?, Sheet, sheet_of, sheet, condition?, one_of?, alike?, full?}

-- `on_s` has calls on root(X(a), b): the root is 0, X 1, a 2, b 3; c is 5 and d 7, roots of their own above them; R(X'(a)) is 8, X' 9

-- c after b, then d after X: root(X(a), d, b, c). The splice of d, performed later, moves c
abbrev pub moved_on : Told
moved_on = on_s (call 1 3 (5 ∷ []) ∷ call 1 1 (7 ∷ []) ∷ [])

-- X by R: root(R(X'(a)), b)
abbrev pub replaced : Told
replaced = on_s (call 2 1 (8 ∷ []) ∷ [])

-- the same with c after a, and X mapped to X': the dependent ends in the tree of R, root(R(X'(a, c)), b)
abbrev pub dependent_in_r : Told
dependent_in_r = record { trees = (on_s []).trees; calls = call 2 1 (8 ∷ []) ∷ call 1 2 (5 ∷ []) ∷ []; mappings = (1, 9) ∷ []; notes = [] }

-- a sheet, where the condition holds
abbrev pub met : List (ℕ × ℕ) → List (Bool × Bool) → Sheet
met elements olds = record { root = true; aside = true; elements = elements; olds = olds }

-- an element of the new tree: a changed one is at or above it, or an old one went there
abbrev pub new : ℕ × ℕ
new = (1, 0)

abbrev pub went : ℕ × ℕ
went = (0, 1)

-- an old element: it goes somewhere and no child was deleted there, or it goes nowhere and is at or below one
abbrev pub stays : Bool × Bool
stays = (false, false)

abbrev pub goes : Bool × Bool
goes = (true, true)

-- each batch with its edge rule, its changed elements and its sheet
abbrev pub Case : Type 0
Case = (ℕ × Told) × (List ℕ × Sheet)

abbrev pub table : List Case
table =
    ((0, moved_on), (3 ∷ 5 ∷ [], met (went ∷ went ∷ went ∷ new ∷ went ∷ new ∷ []) (stays ∷ stays ∷ stays ∷ stays ∷ [])))
    ∷ ((1, moved_on), (3 ∷ 5 ∷ [], met (went ∷ went ∷ went ∷ new ∷ went ∷ new ∷ []) (stays ∷ stays ∷ stays ∷ stays ∷ [])))
    ∷ ((0, replaced), (1 ∷ [], met (went ∷ new ∷ new ∷ new ∷ went ∷ []) (stays ∷ goes ∷ goes ∷ stays ∷ [])))
    ∷ ((0, dependent_in_r), (1 ∷ [], met (went ∷ new ∷ new ∷ new ∷ new ∷ went ∷ []) (stays ∷ goes ∷ goes ∷ stays ∷ [])))
    ∷ ((1, dependent_in_r), (1 ∷ [], met (went ∷ new ∷ new ∷ new ∷ new ∷ went ∷ []) (stays ∷ goes ∷ goes ∷ stays ∷ [])))
    ∷ ((0, closing_call), ([], met (went ∷ went ∷ went ∷ went ∷ went ∷ []) (stays ∷ stays ∷ stays ∷ stays ∷ goes ∷ goes ∷ stays ∷ [])))
    ∷ ((1, closing_call), (4 ∷ [], met (went ∷ went ∷ went ∷ went ∷ new ∷ went ∷ []) (stays ∷ stays ∷ stays ∷ stays ∷ goes ∷ goes ∷ stays ∷ [])))
    ∷ []

-- the changed elements and the sheet of a batch
unfoldable pub account : ℕ × Told → Answer (List ℕ × Sheet)
account m = do
  R ← edit (edge m.0) (in_bytes m.1)
  s ← sheet (edge m.0) (in_bytes m.1)
  gives (R.changed, s)

-- what is counted is what is told, and each sheet meets the condition and passes the test
pub counted : (map (λ m. account m.0) table ≡ map (λ m. gives m.1) table) × (each (λ m. condition? m.1.1 && full? m.1.1) table ≡ true)
unfolding computed in_lists in_bytes replaces_root Lists.total each went_to count old_elements is? old_at dependent_in0 keeps_root no_dependent_in0 trees_in table_in changed_above in_run? deleted? sheet_of sheet condition? one_of? alike? full? account
counted = (refl, refl)
