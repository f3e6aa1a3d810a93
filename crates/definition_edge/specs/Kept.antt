-- UNDER RULE 1 NO OWN INSERTION IS LOST: a batch that replaces no root of tree 0, and has no dependent change ending there, answers with the one-go tree, and what each own
-- change puts into tree 0 stands in it.
-- Assumes nothing.
use Rattle.std.specs.Prelude.{◌≡◌, ℕ}
use Rattle.std.proofs.Math.Bool.{true}
use mathlib.Core.List.{List, [], ◌∷◌, Memᴰ}
use Rattle.std.proofs.Math.Option.{some}
use Rattle.std.proofs.Math.ListN.{get_elem?}
use Rattle.orders.specs.Tree.{Tree, Path}
use Rattle.definition.specs.Basics.{gives}
use Rattle.definition.specs.Choices.{Choices}
use Rattle.definition.specs.Elements.{Table, table, tree}
use Rattle.definition.specs.Refusals.{Accepted, accepted}
use Rattle.definition.specs.Recording.{Recorded}
use Rattle.definition.specs.Planning.{own, Planned, target}
use Rattle.definition.specs.EdgeRule.{target_parent, planned}
use Rattle.definition.specs.Running.{World, present}
use Rattle.definition.specs.Finishing.{new_tree, result}
use Rattle.definition.specs.Answers.{remaining, Plan, plan, performed, at_first, ran, edit}
use Rattle.definition.specs.Performed.{met, yields}
use Rattle.definition_laws.specs.Plans.{changes}
use Rattle.definition_demand.specs.Answered.{ApartIn, AnswersOneGo}
use Rattle.definition_account.specs.Words.{keeps_root, no_dependent_in0}
use Rattle.definition_edge.specs.Fates.{FateAt}
use Rattle.definition_edge.specs.Own.{alone}
use Rattle.definition_edge.specs.Stands.{StandsIn}

-- what the change q put into tree 0: all that its listed elements yielded when it was performed, side by side among the children of its target parent, where the new tree has that
pub record Stood (T : Table) (first : World) (ps : List Planned) (w : World) (q : Planned) : Type 0 where
  pub then : World
  pub met : Memᴰ (then, q) (met T first first ps)
  pub path : Path
  pub parent : present w (target_parent T q.change) ≡ some (0 ∷ path)
  pub tree : Tree ℕ
  pub new : new_tree w ≡ tree ∷ []
  pub stands : StandsIn tree path (yields T first (then, q))

-- AN ACCEPTED BATCH UNDER RULE 1, its run not refused, that does not replace the root of tree 0 and has no dependent change ending there
pub record Ran1 (h : Choices) (bytes : List ℕ) (a : Accepted) (p : Plan) (w : World) : Type 0 where
  pub rule : h.edge ≡ 1
  pub accepted : accepted bytes ≡ gives a
  pub planned : plan h a ≡ gives p
  pub ran : ran a p ≡ gives w
  pub unreplaced : keeps_root a.table (performed a p) ≡ true
  pub aside : no_dependent_in0 a.table (performed a p) ≡ true

-- WHAT IT ANSWERS
pub record Kept1 (h : Choices) (bytes : List ℕ) (a : Accepted) (p : Plan) (w : World) : Type 0 where
  pub edits : edit h bytes ≡ gives (result p.changes p.climbs w)
  -- its splices are apart
  pub old : Tree ℕ
  pub apart : ApartIn old a p
  -- so it answers with the one-go tree
  pub answers : AnswersOneGo old a p (result p.changes p.climbs w)
  -- AND WHAT EACH CHANGE PERFORMED IN TREE 0 PUTS IN STANDS THERE
  pub stood : (q : Planned) → Memᴰ q (performed a p) → tree a.table (target q.change) ≡ 0 → Stood a.table (at_first a p) (performed a p) w q
  -- so does what a change that the account calls own puts into tree 0: no own insertion is lost
  pub own : (i : ℕ) (c : Recorded) → get_elem? (remaining h a) i ≡ some c → FateAt a.table (changes h a) i own → tree a.table (target c.change) ≡ 0 → Stood a.table (at_first a p) (performed a p) w (alone c)
