-- A batch: where its splices are apart and leave the root, it answers with the old tree rewritten in one go; and a test that says just whether they do.
-- Assumes nothing.
use Rattle.std.specs.Prelude.{◌≡◌, Bool, false, not, ◌&&◌, ℕ, take}
use mathlib.Core.List.{List, [], ◌∷◌, map}
use Rattle.orders.specs.Lists.{any, All}
use Rattle.orders.specs.Tree.{Tree, label, preorder, text, measure}
use Rattle.orders.specs.Splices.{Splice, one_go, AllApart}
use Rattle.orders.proofs.Check.{all_apart?}
use Rattle.definition.specs.Basics.{◌>>=◌, Answer, gives}
use Rattle.definition.specs.Choices.{Choices}
use Rattle.definition.specs.Elements.{table}
use Rattle.definition.specs.Refusals.{Accepted, accepted}
use Rattle.definition.specs.Running.{World}
use Rattle.definition.specs.Finishing.{Result}
use Rattle.definition.specs.Answers.{Plan, plan, performed, ran}
use Rattle.definition.specs.Performed.{splices}
use Rattle.definition_demand.specs.Aims.{replaces_root}
use Rattle.definition_demand.specs.Run.{DemandedOf}

-- "splices are apart and leave the root unreplaced"; `old` is tree 0
pub record ApartIn (old : Tree ℕ) (a : Accepted) (p : Plan) : Type 0 where
  pub tree0 : take 1 a.trees ≡ old ∷ []
  pub apart : AllApart old (splices a p)
  pub unreplaced : All (λ q. replaces_root a.table q.change ≡ false) (performed a p)

-- the result has the kinds, measures and text of this tree
pub record Shows (t : Tree ℕ) (r : Result) : Type 0 where
  pub kinds : r.kinds ≡ map label (preorder t)
  pub measures : r.measures ≡ map measure (preorder t)
  pub text : r.text ≡ text t

-- what is answered: "that tree", and the paths that go with it
pub record AnswersOneGo (old : Tree ℕ) (a : Accepted) (p : Plan) (r : Result) : Type 0 where
  pub end : World
  pub run : ran a p ≡ gives end
  pub demanded : DemandedOf old (splices a p) a.table end
  pub shows : Shows (one_go (splices a p) old) r

-- splices of tree 0 are all apart
unfoldable pub apart_in? : List (Tree ℕ) → List (Splice ℕ) → Bool
apart_in? [] S = false
apart_in? (old ∷ others) S = all_apart? old S

-- the splices of a plan are apart, and leave the root
unfoldable pub apart_plan? : Accepted → Plan → Bool
apart_plan? a p = apart_in? a.trees (splices a p) && not (any (λ q. replaces_root a.table q.change) (performed a p))

-- the same of a batch that is not refused
unfoldable pub apart_batch? : Choices → List ℕ → Answer Bool
apart_batch? h bytes = do
  a ← accepted bytes
  p ← plan h a
  _ ← ran a p
  gives (apart_plan? a p)

-- tree 0 of a batch, rewritten in one go by its splices (a list of one)
unfoldable pub one_go_of : Choices → List ℕ → Answer (List (Tree ℕ))
one_go_of h bytes = do
  a ← accepted bytes
  p ← plan h a
  gives (map (one_go (splices a p)) (take 1 a.trees))
