-- Running and splicing: the order, one step, refusals 11 and 12.
-- Assumes nothing.
use Rattle.std.specs.Prelude.{Bool, true, false, cond, ◌&&◌, ◌||◌, ℕ, zero, suc, length, get_or, ltb, eqb}
use mathlib.Core.List.{List, [], ◌∷◌, ◌++◌, map, flat_map}
use Rattle.std.proofs.Math.Option
use Rattle.std.proofs.Math.Option.{Option, none, some, bind}
use Rattle.orders.specs.Lists.{pick}
pub use Rattle.orders.specs.Tree.{Run}
use Rattle.orders.specs.Tree.{Tree, node, token, forest, Path, resolve, splice, adjust, elements_of, text_of, deepest_of, children, last, front, strip}
use Rattle.definition.specs.Basics.{Answer, gives, ◌>>=◌, refuse, or_refuse, keep, numbered, falling}
use Rattle.definition.specs.Elements.{Table, row, root?, tree}
use Rattle.definition.specs.Recording.{first_child, after, Change, insert, replace, delete, replace_with_many, replace_all}
use Rattle.definition.specs.Planning.{Fate, own, dependent, discarded, Planned, target, key}
use Rattle.definition.specs.Rewriting.{Note}

-- ── The order ───────────────────────────────────────────────────────────────────────────────────────────────

-- a change of this fate has this owner (or, as own, none)
unfoldable pub owned : Option ℕ → Fate → Bool
owned none own = true
owned none (dependent k) = false
owned none (discarded k) = false
owned (some i) own = false
owned (some i) (dependent k) = eqb i k
owned (some i) (discarded k) = false

-- the changes with their places, "by their rewritten targets in the batch's trees: falling start, then falling depth, then replace, run, insert, ties in sorted order"
unfoldable pub ranked : Table → List Planned → List (ℕ × Planned)
ranked T ps = falling (λ q. key T q.1.change) (numbered 0 ps)

-- "Dependents run before their owner": of such a list, the changes of one owner (or those without), each after its own dependents. "with remaining changes falling": n may remain
unfoldable pub order : List (ℕ × Planned) → ℕ → Option ℕ → List Planned
order qs zero owner = []
order qs (suc n) owner = flat_map (λ q. order qs n (some q.0) ++ (q.1 ∷ [])) (keep (λ q. owned owner q.1.fate) qs)

-- ── The current trees ───────────────────────────────────────────────────────────────────────────────────────

-- an element that is "recorded as changed": its path, and the rule number of the change that put it in (document 02, Note 8)
abbrev pub Changed : Type 0
Changed = Path × ℕ

-- what the steps change
pub record World : Type 0 where
  -- all current trees, as the children of one node that is no element (its kind is 0)
  pub trees : Tree ℕ
  -- the present path of each element of the batch, none once it is dropped
  pub paths : List (Option Path)
  -- the notes, in the order in which they are held
  pub notes : List Note
  -- what is recorded as changed, in the order of time
  pub changed : List Changed

-- before the first step: the batch's own trees, and the notes where they settled
unfoldable pub begin : List (Tree ℕ) → Table → List Note → World
begin ts T notes = record { trees = node 2147483648 (forest ts); paths = map (λ r. some r.path) T; notes = notes; changed = [] }

-- the present path of element e
unfoldable pub present : World → ℕ → Option Path
present w e = get_or w.paths e none

-- ── What a listed element yields ────────────────────────────────────────────────────────────────────────────

-- the note n at another path
unfoldable pub with_path : Note → Path → Note
with_path n p = record { path = p; number = n.number; place = n.place }

-- "Notes at or below it come along in the same way, in the order in which they are held there": the notes at or below the element at `top`, told from it
unfoldable pub notes_at : Path → List Note → List Note
notes_at top notes = pick (λ n. Option.map (with_path n) (strip top n.path)) notes

-- an element with all that is below it, and the notes there
pub record Yield : Type 0 where
  pub tree : Tree ℕ
  pub notes : List Note

-- what stands at a path (a path that survives leads to an element)
unfoldable pub yield_at : World → Path → Yield
yield_at w p = record { tree = Option.get_or (resolve p w.trees) (token 0 []); notes = notes_at p w.notes }

-- "A listed element yields its present elements from the current trees if its path survives, else its original ones from the batch" (as it was before the first step)
unfoldable pub yield : World → World → ℕ → Yield
yield first w e = elim (present w e) [ none ↦ yield_at first (Option.get_or (present first e) []) | some p ↦ yield_at w p ]

-- the elements that go in
unfoldable pub news : Change → List ℕ
news (insert p x l) = l
news (replace x y) = y ∷ []
news (delete x) = []
news (replace_with_many x l) = l
news (replace_all x y l) = l

-- ── Where a change goes ─────────────────────────────────────────────────────────────────────────────────────

-- the run from the element at p to the one at q
unfoldable pub from_to : Path → Path → Run
from_to p q = record { parent = front p; from = last p; to = suc (last q) }

-- the empty run before child a of the element at p
unfoldable pub empty_at : Path → ℕ → Run
empty_at p a = record { parent = p; from = a; to = a }

-- where a change goes; none if its target is gone. "Replacing a root drops every old path; a call 2 on a root needs none."
unfoldable pub place : Table → World → Change → Option Run
place T w (insert first_child x l) = bind (present w x) (λ p. some (empty_at p 0))
place T w (insert after x l) = bind (present w x) (λ p. some (empty_at (front p) (suc (last p))))
place T w (replace x y) = bind (cond (root? T x) (some (row T x).path) (present w x)) (λ p. some (from_to p p))
place T w (delete x) = bind (present w x) (λ p. some (from_to p p))
place T w (replace_with_many x l) = bind (present w x) (λ p. some (from_to p p))
place T w (replace_all x y l) = bind (present w x) (λ p. bind (present w y) (λ q. some (from_to p q)))

-- ── One step ────────────────────────────────────────────────────────────────────────────────────────────────

-- what goes in as children a and on of the element at q, each with its path
unfoldable pub placed : Path → ℕ → List Yield → List (Path × Yield)
placed q a [] = []
placed q a (y ∷ ys) = (q ++ (a ∷ []), y) ∷ placed q (suc a) ys

-- One splice: the run r gives way to what is yielded. "paths not strictly below the parent stay; child a to b−1 drops; child b or more becomes
-- child + n − (b − a)"; "Recorded changes and notes move alike." New notes stand behind the kept ones. What goes in is recorded by the rule number told, or not
unfoldable pub spliced : Run → List Yield → Option ℕ → World → World
spliced r new recorded w =
    let move = adjust r.parent r.from r.to (length new) in
    let places = placed r.parent r.from new in
    record {
      trees = splice r.parent r.from r.to (map (λ y. y.tree) new) w.trees;
      paths = map (λ o. bind o move) w.paths;
      notes = pick (λ n. Option.map (with_path n) (move n.path)) w.notes ++ flat_map (λ y. map (λ n. with_path n (y.0 ++ n.path)) y.1.notes) places;
      changed = pick (λ c. Option.map (λ p. (p, c.1)) (move c.0)) w.changed ++ elim recorded [ none ↦ [] | some rule ↦ map (λ y. (y.0, rule)) places ];
    }

-- 12: "all current trees together exceed 4,096 elements, 16,384 text bytes, or 1,024 tracked notes, or depth 64"
unfoldable pub too_large : World → Bool
too_large w =
    let ts = children w.trees in
    ltb 4096 (elements_of ts) || ltb 16384 (length (text_of ts)) || ltb 1024 (length w.notes) || ltb 64 (deepest_of ts)

-- "Each element that an undependent change puts into tree 0 is recorded as changed"
unfoldable pub records : Table → Planned → Bool
records T p = owned none p.fate && eqb (tree T (target p.change)) 0

-- the number by which what it puts in is recorded, none if it is not
unfoldable pub recorded_by : Table → Planned → Option ℕ
recorded_by T p = cond (records T p) (some p.rule) none

module _ (T : Table) (first : World) where
  -- one performed change. 11: "A step's target is gone."
  unfoldable pub step : World → Planned → Answer World
  step w p = do
    r ← or_refuse 11 (place T w p.change)
    let next = spliced r (map (yield first w) (news p.change)) (recorded_by T p) w
    _ ← refuse 12 (too_large next)
    gives next

  -- "11 and 12 come as met, step by step."
  unfoldable pub steps : World → List Planned → Answer World
  steps w [] = gives w
  steps w (p ∷ ps) = do
    next ← step w p
    steps next ps
