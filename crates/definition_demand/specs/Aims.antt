-- Where a change aims, told by the old paths of its targets: the same aim tells its place at first and at every later step.
-- Assumes nothing.
use Rattle.std.specs.Prelude.{◌≡◌, Bool, false, ◌&&◌, eqb, length}
use Rattle.std.proofs.Math.Bool.{true}
use mathlib.Core.List.{[], ◌∷◌, ◌++◌, map}
use Rattle.std.proofs.Math.Option.{Option, some, bind}
use Prim.Native.Nat.{ℕ, suc, ◌≤◌}
use Rattle.orders.specs.Tree.{Path, front, last}
use Rattle.definition.specs.Elements.{Table, root?, parent, tree}
use Rattle.definition.specs.Recording.{Change, insert, replace, delete, replace_with_many, replace_all}
use Rattle.definition.specs.Running.{World, news, Run, from_to, empty_at, place}

-- a run of children of the element at a path: before the first, behind child i, from child i to child j
pub data Below : Type 0 where
  at_first : Path → Below
  behind : Path → ℕ → Below
  over : Path → (i j : ℕ) → i ≤ j → Below

-- where a change aims: at a run in some tree, or at a tree's root
pub data Aim : Type 0 where
  within : ℕ → Below → Aim
  root : ℕ → Aim

-- the run that the moved paths of the targets tell; none if a target is gone
unfoldable pub aimed : Aim → (Path → Option Path) → Option Run
aimed (within t (at_first q)) move = bind (move (t ∷ q)) (λ p. some (empty_at p 0))
aimed (within t (behind q i)) move = bind (move (t ∷ (q ++ (i ∷ [])))) (λ p. some (empty_at (front p) (suc (last p))))
aimed (within t (over q i j l)) move = bind (move (t ∷ (q ++ (i ∷ [])))) (λ p. bind (move (t ∷ (q ++ (j ∷ [])))) (λ r. some (from_to p r)))
aimed (root t) move = some (record { parent = []; from = t; to = suc t })

-- the run that the old paths tell, in its own tree
abbrev pub old_run : Below → Run
old_run (at_first q) = record { parent = q; from = 0; to = 0 }
old_run (behind q i) = record { parent = q; from = suc i; to = suc i }
old_run (over q i j l) = record { parent = q; from = i; to = suc j }

-- the change replaces the root of tree 0
unfoldable pub replaces_root : Table → Change → Bool
replaces_root T (insert p x l) = false
replaces_root T (replace x y) = root? T x && eqb (tree T x) 0
replaces_root T (delete x) = false
replaces_root T (replace_with_many x l) = false
replaces_root T (replace_all x y l) = false

-- a change that aims at a root puts one element there
abbrev pub AtRoot : Table → Change → Aim → Type 0
AtRoot T c (within t b) = Unit
AtRoot T c (root t) = (length (news c) ≡ 1) × (t ≡ 0 → replaces_root T c ≡ true)

-- where a change aims, whatever paths have moved
pub record Aims (T : Table) (c : Change) : Type 0 where
  pub aim : Aim
  pub goes : (w : World) (move : Path → Option Path) → w.paths ≡ map (λ r. move r.path) T → place T w c ≡ aimed aim move
  pub roots : AtRoot T c aim
