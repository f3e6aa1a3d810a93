-- Running and splicing: "A batch's splices are those these rules perform on tree 0, each with what its listed elements yield then, numbered as performed
-- and placed by rewritten targets".
-- Assumes nothing.
use Rattle.std.specs.Prelude.{◌≡◌, cond, List, [], ◌∷◌, map, ℕ, ◌≤◌, eqb, length}
use Rattle.std.proofs.Math.Option.{Option, none, some, bind}
use Rattle.orders.specs.Lists.{All, pick}
use Rattle.orders.specs.Tree.{Tree}
use Rattle.orders.specs.Splices.{Splice}
use Rattle.definition.specs.Basics.{Answer, refused, gives, ◌>>=◌, numbered}
use Rattle.definition.specs.Choices.{Choices}
use Rattle.definition.specs.Elements.{Table}
use Rattle.definition.specs.Refusals.{most_listed, Accepted, accepted}
use Rattle.definition.specs.Planning.{Planned}
use Rattle.definition.specs.Running.{World, Run, news, place, yield, step}
use Rattle.definition.specs.Answers.{Plan, plan, performed, at_first, ran}

-- a run of children of an element of tree 0, told in tree 0 alone; none in another tree, and none for a root (it is no one's child)
unfoldable pub in_tree0 : Run → Option Run
in_tree0 r = elim r.parent [ [] ↦ none | t ∷ p ↦ cond (eqb t 0) (some (record { parent = p; from = r.from; to = r.to })) none ]

-- a numbered run and its prepared list, as a splice
unfoldable pub to_splice : ℕ × (Run × List (Tree ℕ)) → Splice ℕ
to_splice s = record { number = s.0; parent = s.1.0.parent; from = s.1.0.from; to = s.1.0.to; prepared = s.1.1 }

module _ (T : Table) (first : World) where
  -- each step that is performed, and what it meets
  unfoldable pub met : World → List Planned → List (World × Planned)
  met w [] = []
  met w (p ∷ ps) = (w, p) ∷ elim (step T first w p) [ refused k ↦ [] | gives next ↦ met next ps ]

  -- "with what its listed elements yield then"
  unfoldable pub yields : World × Planned → List (Tree ℕ)
  yields m = map (λ e. (yield first m.0 e).tree) (news m.1.change)

  -- "placed by rewritten targets": where the change would go at first, while each path is the old one
  unfoldable pub told : World × Planned → Option (Run × List (Tree ℕ))
  told m = bind (place T first m.1.change) (λ r. bind (in_tree0 r) (λ s. some (s, yields m)))

-- "numbered as performed"
unfoldable pub splices : Accepted → Plan → List (Splice ℕ)
splices a p =
    let first = at_first a p in
    map to_splice (numbered 0 (pick (told a.table first) (met a.table first first (performed a p))))

-- the splices of a batch that is not refused
unfoldable pub splices_of : Choices → List ℕ → Answer (List (Splice ℕ))
splices_of h bytes = do
  a ← accepted bytes
  p ← plan h a
  _ ← ran a p
  gives (splices a p)

-- "no splice inserts more than 41 subtrees" (document 02, Note 3): every splice of a batch that is not refused
abbrev pub InsertsFew : Choices → List ℕ → Type 0
InsertsFew h bytes = (S : List (Splice ℕ)) → splices_of h bytes ≡ gives S → All (λ s. length s.prepared ≤ most_listed) S
