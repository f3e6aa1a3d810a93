-- NOTE 13, of every batch that is not refused, by any choices.
-- Assumes nothing.
use Rattle.std.specs.Prelude.{◌≡◌, ◌↔◌, ℕ, ◌<◌, length, take}
use Rattle.std.proofs.Math.Path.{refl, sym, subst}
use Rattle.std.proofs.Common.{ap, ◌∙◌, arith}
use Rattle.std.proofs.Math.Bool.{true}
use mathlib.Core.List.{List, flat_map}
use Rattle.std.proofs.Math.Option.{bind}
use Rattle.std.proofs.Math.ListN.{length-map}
use Rattle.orders.specs.Lists.{All}
use Rattle.orders.specs.ListLaws.{both_true}
use Rattle.orders.specs.Tree.{Tree, node, token, list, children, label, preorder}
use Rattle.definition.specs.Basics.{gives}
use Rattle.definition.specs.Choices.{Choices}
use Rattle.definition.specs.Elements.{Table}
use Rattle.definition.specs.Refusals.{Accepted, accepted}
use Rattle.definition.specs.Planning.{Planned}
use Rattle.definition.specs.Running.{World, begin}
use Rattle.definition.specs.Finishing.{new_tree, new_table, Result, result}
use Rattle.definition.specs.Answers.{Plan, plan, performed, at_first, ran}
use Rattle.definition.specs.Performed.{splices}
use Rattle.definition_laws.specs.Answers.{gives_inj, given}
use Rattle.definition_laws.specs.Basics.{All-take}
use Rattle.definition_laws.specs.Measures.{preorder_list_length}
use Rattle.definition_laws.specs.Rows.{table_length}
use Rattle.definition_laws.specs.Spelling.{Worded, worded_list, Spells, spells_read}
use Rattle.definition_laws.proofs.Limits.{Ran, ran_known}
use Rattle.definition_demand.specs.Run.{splices_in0}
use Rattle.definition_account.specs.Words.{changed_in, changed_over, old_at, OneOf, EachOneOf, NowhereIfDeleted, keeps_root, no_dependent_in0}
use Rattle.definition_account.proofs.Account.{Performed, each_one_of, nowhere_if_deleted, ran_performed}
use Rattle.full_account.specs.Words.{trees_in, table_in, changed_above, Accounted, Sheet, sheet_of, sheet, condition?, full?}
use Rattle.full_account.proofs.Says.{full_says}

-- ── A result is read as its new tree ────────────────────────────────────────────────────────────────────────

-- kind words fit in the new tree
new_worded : (w : World) → Worded w.trees → All Worded (new_tree w)
unfolding new_tree children list
new_worded w h = go w.trees h
  where
    go : (t : Tree ℕ) → Worded t → All Worded (take 1 (list (children t)))
    go (node k cs) h = All-take Worded 1 (list cs) (worded_list cs h.1)
    go (token k own) h = tt

module _ (ps : List Planned) (climbs : ℕ) (w : World) (h : Worded w.trees) where
  abbrev R : Result
  R = result ps climbs w

  -- what its arrays spell is the new tree
  pub trees_read : trees_in R ≡ new_tree w
  unfolding trees_in result bind
  trees_read =
      let s : Spells (new_tree w) R.kinds R.measures R.text = record { worded = new_worded w h; kinds = refl; measures = refl; written = refl } in
      let (x, y) = spells_read (new_tree w) R.kinds R.measures R.text s in
      rw (x, y) refl

  -- so changed elements are counted as in the new tree
  pub changed_read : (n : ℕ) → changed_above R n ≡ changed_over w n
  unfolding changed_above changed_over table_in new_table result changed_in
  changed_read n = rw trees_read refl

  elements_read : length R.kinds ≡ length (new_table w)
  unfolding result new_table
  elements_read = length-map (flat_map preorder (new_tree w)) label ∙ (preorder_list_length (new_tree w) ∙ sym (table_length (new_tree w) 0 0))

-- ── Each sentence, under the half of the condition that it needs ────────────────────────────────────────────

module _ (h : Choices) (bytes : List ℕ) (a : Accepted) (p : Plan) (w : World) (x : accepted bytes ≡ gives a) (y : plan h a ≡ gives p) (z : ran a p ≡ gives w) where
  known : Ran bytes a p w
  known = ran_known h bytes a p w x y z

  done : Performed a.trees p.notes (performed a p) w
  done = ran_performed h bytes a p w x y z

  -- "every element of the new tree either lies at or below exactly one changed element, or is where exactly one old element went, and never both": where no dependent change ends in tree 0
  pub each_accounted : no_dependent_in0 a.table (performed a p) ≡ true → (n : ℕ) → n < length (result p.changes p.climbs w).kinds → OneOf (changed_above (result p.changes p.climbs w) n) (old_at a.table w n)
  each_accounted d n l =
      let each : EachOneOf a.table w = subst (λ (T : Table). no_dependent_in0 T (performed a p) ≡ true → EachOneOf T w) (sym known.known.table) (each_one_of a.trees p.notes (performed a p) w done) d in
      rw (changed_read p.changes p.climbs w known.follows.worded n) (each n (omega (arith, elements_read p.changes p.climbs w known.follows.worded)))

  -- "old elements that go nowhere are exactly those at or below a child deleted in tree 0": where the root is not replaced
  pub nowhere_accounted : keeps_root a.table (performed a p) ≡ true → NowhereIfDeleted a.table (splices a p) w
  unfolding splices at_first
  nowhere_accounted =
      subst (λ (T : Table). keeps_root T (performed a p) ≡ true → NowhereIfDeleted T (splices_in0 T (begin a.trees T p.notes) (performed a p)) w)
      (sym known.known.table) (nowhere_if_deleted a.trees p.notes (performed a p) w done)

  -- ── NOTE 13 ──

  -- "It holds for an accepted batch that does not replace the root and has no dependent change ending in tree 0."
  pub accounted : keeps_root a.table (performed a p) ≡ true → no_dependent_in0 a.table (performed a p) ≡ true → Accounted a p w (result p.changes p.climbs w)
  accounted r d = record { each = each_accounted d; nowhere = nowhere_accounted r }

  -- the test says just whether it is so
  pub tested : (full? (sheet_of a p w (result p.changes p.climbs w)) ≡ true) ↔ Accounted a p w (result p.changes p.climbs w)
  tested = full_says a p w (result p.changes p.climbs w) known.known.table

-- Where the sheet of a batch meets the condition, it passes the test.
pub sheet_full : (h : Choices) (bytes : List ℕ) (s : Sheet) → sheet h bytes ≡ gives s → condition? s ≡ true → full? s ≡ true
unfolding sheet condition? sheet_of
sheet_full h bytes s e c =
    given (accepted bytes) _ e λ a x e.
    given (plan h a) _ e λ p y e.
    given (ran a p) _ e λ w z e.
    let R = result p.changes p.climbs w in
    let s' : sheet_of a p w R ≡ s = gives_inj e in
    let (r, d) = both_true (keeps_root a.table (performed a p)) (no_dependent_in0 a.table (performed a p)) (ap condition? s' ∙ c) in
    ap full? (sym s') ∙ (tested h bytes a p w x y z).1 (accounted h bytes a p w x y z r d)
