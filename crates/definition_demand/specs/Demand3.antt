-- DEMAND 3, whole.
-- Assumes nothing.
use Rattle.std.specs.Prelude.{◌≡◌, false, ℕ}
use mathlib.Core.List.{List, ◌∷◌, Permᴰ}
use Rattle.orders.specs.Lists.{All}
use Rattle.orders.specs.Tree.{Tree, Path}
use Rattle.orders.specs.Splices.{Splice, begin, performs, AllApart}
use Rattle.orders.proofs.Demand.{Demanded}
use Rattle.definition.specs.Basics.{gives}
use Rattle.definition.specs.Choices.{Choices}
use Rattle.definition.specs.Elements.{table}
use Rattle.definition.specs.Refusals.{Accepted, accepted}
use Rattle.definition.specs.Planning.{Planned}
use Rattle.definition.specs.Rewriting.{Note}
use Rattle.definition.specs.Running.{World, steps}
use Rattle.definition.specs.Running as Running
use Rattle.definition.specs.Finishing.{Result, encoded}
use Rattle.definition.specs.Answers.{Plan, plan, edit, edited}
use Rattle.definition_laws.specs.Right.{Sits}
use Rattle.definition_demand.specs.Aims.{replaces_root}
use Rattle.definition_demand.specs.Run.{splices_in0, DemandedOf}
use Rattle.definition_demand.specs.Answered.{ApartIn, AnswersOneGo}

-- what demand 3 says
pub record Demand3 : Type 1 where
  -- "Whatever the old tree, whatever list of numbered splices that are apart .., and in whatever order they are done from that tree, each on the tree and paths the last one left": the tree is the old one
  -- rewritten in one go, and old paths are dropped, or find their elements, as it puts them
  pub law : {A : Type 0} (old : Tree A) (S order : List (Splice A)) → AllApart old S → Permᴰ S order → Demanded old S (performs order (begin old))
  -- "no two orders differ in tree or paths"
  pub agree : {A : Type 0} (old : Tree A) (S one other : List (Splice A)) → AllApart old S → Permᴰ S one → Permᴰ S other
      → ((performs one (begin old)).tree ≡ (performs other (begin old)).tree) × ((e : Path) → (performs one (begin old)).path e ≡ (performs other (begin old)).path e)
  -- the steps of any plan do the same in tree 0, if their splices there are apart and none replaces its root
  pub run : (old : Tree ℕ) (others : List (Tree ℕ)) (notes : List Note) →
      let T = table 0 0 (old ∷ others) in
      let first = Running.begin (old ∷ others) T notes in
      (ps : List Planned) (w : World) → All (λ p. Sits T p.change) ps → All (λ p. replaces_root T p.change ≡ false) ps → steps T first first ps ≡ gives w → AllApart old (splices_in0 T first ps)
      → DemandedOf old (splices_in0 T first ps) T w
  -- "every accepted batch whose splices are apart and leave the root unreplaced answers with that tree"; "the law about orders is shown for either" edge rule (document 02, Note 6): whatever is chosen
  pub answer : (h : Choices) (bytes : List ℕ) (r : Result) → edit h bytes ≡ gives r → (a : Accepted) (p : Plan) → accepted bytes ≡ gives a → plan h a ≡ gives p → (old : Tree ℕ) → ApartIn old a p → AnswersOneGo old a p r
  -- and what THE EDIT writes is such an answer, as bytes
  pub bytes : (h : Choices) (work : List (ℕ × ℕ)) (bytes : List ℕ) (room : ℕ) (out : List ℕ) → edited h work bytes room ≡ gives out → (r : Result) × (edit h bytes ≡ gives r) × (encoded r ≡ out)
