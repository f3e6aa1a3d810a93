-- Each half of Note 13's condition is needed: without it, a batch that is not refused fails the test.
-- Assumes nothing.
use Rattle.std.specs.Prelude.{◌≡◌, refl, Bool, true, false, ℕ}
use Rattle.std.proofs.Common.{ap, ◌∙◌}
use mathlib.Core.List.{List, [], ◌∷◌, map, head-eq_of_cons-eq, tail-eq_of_cons-eq}
use Rattle.orders.specs.Lists
use Rattle.orders.specs.ListLaws.{bool_absurd}
use Rattle.orders.proofs.Check.{each}
use Rattle.definition.specs.Basics.{gives, ◌>>=◌}
use Rattle.definition.specs.Choices.{Choices}
use Rattle.definition.specs.Refusals.{Accepted, accepted}
use Rattle.definition.specs.Running.{World}
use Rattle.definition.specs.Finishing.{result}
use Rattle.definition.specs.Answers.{Plan, plan, ran}
use Rattle.definition.specs.Computing.{computed}
use Rattle.definition.specs.Examples.{Told, in_lists, in_bytes, node_of, token_of, call, on_s}
use Rattle.definition.specs.EdgeExamples.{edge}
use Rattle.definition_laws.specs.Answers.{gives_inj}
use Rattle.definition_demand.specs.Aims.{replaces_root}
use Rattle.definition_account.specs.Words.{went_to, count, old_elements, is?, old_at, dependent_in0, keeps_root, no_dependent_in0}
use Rattle.full_account.specs.Words.{trees_in, table_in, changed_above, Accounted, in_run?, deleted?, Sheet, sheet_of, sheet, condition?, one_of?, alike?, full?}
use Rattle.full_account.proofs.Holds.{tested, sheet_full}
use Rattle.full_account.specs.Examples.{new, went, stays, goes}

-- ── The batches ─────────────────────────────────────────────────────────────────────────────────────────────

-- root(X(a), b) by R(X'(a)): all old elements go nowhere, and no child is deleted
abbrev pub root_replaced : Told
root_replaced = on_s (call 2 0 (8 ∷ []) ∷ [])

abbrev pub root_sheet : Sheet
root_sheet = record { root = false; aside = true; elements = new ∷ new ∷ new ∷ []; olds = (true, false) ∷ (true, false) ∷ (true, false) ∷ (true, false) ∷ [] }

-- in root(X(a), Y(Z(b))), X mapped to Z: X by Y, and c after a. The dependent puts c after b, in tree 0: it is at or below no changed element there, and no old element went there. (X is 1, a 2, Y 3, Z 4, b 5; c 7)
abbrev pub dependent_in_y : Told
dependent_in_y = record {
  trees = node_of 1 (node_of 2 (token_of 3 "a" ∷ []) ∷ node_of 4 (node_of 2 (token_of 3 "b" ∷ []) ∷ []) ∷ []) ∷ node_of 5 (token_of 3 "c" ∷ []) ∷ [];
  calls = call 2 1 (3 ∷ []) ∷ call 1 2 (7 ∷ []) ∷ [];
  mappings = (1, 4) ∷ [];
  notes = [];
}

abbrev pub dependent_sheet : Sheet
dependent_sheet = record { root = true; aside = false; elements = went ∷ new ∷ new ∷ new ∷ new ∷ went ∷ went ∷ went ∷ (0, 0) ∷ []; olds = stays ∷ goes ∷ goes ∷ stays ∷ stays ∷ stays ∷ [] }

-- by either edge rule
pub counted_without : (map {A = ℕ × Told} (λ m. sheet (edge m.0) (in_bytes m.1)) ((0, root_replaced) ∷ (1, root_replaced) ∷ (0, dependent_in_y) ∷ (1, dependent_in_y) ∷ []) ≡ gives root_sheet ∷ gives root_sheet ∷ gives dependent_sheet ∷ gives dependent_sheet ∷ [])
    × ((condition? root_sheet ≡ false) × (full? root_sheet ≡ false)) × ((condition? dependent_sheet ≡ false) × (full? dependent_sheet ≡ false))
unfolding computed in_lists in_bytes replaces_root Lists.total each went_to count old_elements is? old_at dependent_in0 keeps_root no_dependent_in0 trees_in table_in changed_above in_run? deleted? sheet_of sheet condition? one_of? alike? full?
counted_without = (refl, (refl, refl), (refl, refl))

-- ── The halves ──────────────────────────────────────────────────────────────────────────────────────────────

-- what the note would say under some condition on the sheet
abbrev pub HoldsUnder : (Sheet → Bool) → Type 0
HoldsUnder c = (h : Choices) (bytes : List ℕ) (s : Sheet) → sheet h bytes ≡ gives s → c s ≡ true → full? s ≡ true

-- "that does not replace the root": it does not hold without this
pub root_needed : ¬ HoldsUnder (λ s. s.aside)
root_needed k = bool_absurd (k (edge 0) (in_bytes root_replaced) root_sheet (head-eq_of_cons-eq counted_without.0) refl) counted_without.1.1

-- "has no dependent change ending in tree 0": nor without this
pub aside_needed : ¬ HoldsUnder (λ s. s.root)
aside_needed k = bool_absurd (k (edge 0) (in_bytes dependent_in_y) dependent_sheet (head-eq_of_cons-eq (tail-eq_of_cons-eq (tail-eq_of_cons-eq counted_without.0))) refl) counted_without.2.1

-- with both it does
pub both_suffice : HoldsUnder condition?
both_suffice = sheet_full

-- ── In the words of the note ────────────────────────────────────────────────────────────────────────────────

-- a sheet that fails the test is that of a batch of which the note is false
pub not_accounted : (h : Choices) (bytes : List ℕ) (s : Sheet) → sheet h bytes ≡ gives s → full? s ≡ false
    → (a : Accepted) (p : Plan) (w : World) → accepted bytes ≡ gives a → plan h a ≡ gives p → ran a p ≡ gives w → ¬ Accounted a p w (result p.changes p.climbs w)
unfolding sheet ◌>>=◌
not_accounted h bytes s e f a p w x y z k =
    let same : sheet_of a p w (result p.changes p.climbs w) ≡ s = gives_inj (rw (x, y, z) at e) in
    bool_absurd ((tested h bytes a p w x y z).1 k) (ap full? same ∙ f)
