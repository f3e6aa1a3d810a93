-- Where a change aims, told by the old paths of its targets: the same aim tells its place at first and at every later step.
-- Assumes nothing.
use Rattle.std.specs.Prelude.{◌≡◌, Bool, false, length}
use Rattle.std.proofs.Math.Path.{refl, ap}
use Rattle.std.proofs.Common.{sym, ◌∙◌, arith, eq-eqb}
use Rattle.std.proofs.Math.Bool.{true}
use mathlib.Core.List.{List, [], ◌∷◌, ◌++◌, map}
use Rattle.std.proofs.Math.Option.{Option, none, some, bind}
use Prim.Native.Nat.{ℕ, suc, ◌<◌}
use Rattle.orders.specs.Tree.{Tree, Path, front, last}
use Rattle.orders.proofs.TreeLaws.{front_child, last_child}
use Rattle.definition.specs.Elements.{Table, table, no_row, row, root?, parent, child, tree}
use Rattle.definition.specs.Recording.{first_child, after, Change, insert, replace, delete, replace_with_many, replace_all}
use Rattle.definition.specs.Running.{World, present, news, from_to, empty_at, place}
use Rattle.definition_laws.specs.Basics.{get_d_map}
use Rattle.definition_laws.specs.Kin.{IsParent, path_long, parent_is, root_is, not_root}
use Rattle.definition_laws.specs.Right.{Sits}
use Rattle.definition_demand.specs.Aims.{root, Below, aimed, old_run, replaces_root, Aims, at_first, behind, over, within}

-- ── Aims ────────────────────────────────────────────────────────────────────────────────────────────────────

-- the same among all trees
pub aimed_old : (t : ℕ) (b : Below) → aimed (within t b) (λ p. some p) ≡ some (record { parent = t ∷ (old_run b).parent; from = (old_run b).from; to = (old_run b).to })
unfolding aimed empty_at from_to bind
aimed_old t (at_first q) = refl
aimed_old t (behind q i) = rw (front_child (t ∷ q) i, last_child (t ∷ q) i)
aimed_old t (over q i j l) = rw (front_child (t ∷ q) i, last_child (t ∷ q) i, last_child (t ∷ q) j)

-- ── The aim of a change ─────────────────────────────────────────────────────────────────────────────────────

module _ (ts : List (Tree ℕ)) where
  abbrev T : Table
  T = table 0 0 ts

  present_at : (w : World) (move : Path → Option Path) → w.paths ≡ map (λ r. move r.path) T → (x : ℕ) → x < length T → (p : Path) → (row T x).path ≡ p → present w x ≡ move p
  unfolding present row
  present_at w move e x h p z = rw e (get_d_map (λ r. move r.path) T x none no_row h ∙ ap move z)

  -- every path begins with its tree
  some_path : (x : ℕ) → x < length T → (t : ℕ) × (q : Path) × ((row T x).path ≡ t ∷ q)
  some_path x h = go (row T x).path (path_long ts x h) refl
    where
      go : (p : Path) → 0 < length p → (row T x).path ≡ p → (t : ℕ) × (q : Path) × ((row T x).path ≡ t ∷ q)
      go [] l e = absurd (omega arith)
      go (t ∷ q) l e = (t, q, e)

  -- and that of a child ends with its number
  child_path : (x m t : ℕ) (q : Path) → IsParent ts m x → (row T m).path ≡ t ∷ q → (row T x).path ≡ t ∷ (q ++ (child T x ∷ []))
  child_path x m t q k e = k.path ∙ ap (λ p. p ++ (child T x ∷ [])) e

  -- one element, not a root, as a run
  one_aims : (c : Change) (x : ℕ) → x < length T → root? T x ≡ false → ((w : World) → place T w c ≡ bind (present w x) (λ p. some (from_to p p))) → Aims T c
  unfolding aimed bind
  one_aims c x h e g =
      let (m, k) = not_root ts x h e in
      let (t, q, z) = some_path m k.within in
      let i = child T x in
      record {
        aim = within t (over q i i (omega arith));
        goes = λ w move u. g w ∙ (ap (λ o. bind o (λ p. some (from_to p p))) (present_at w move u x h _ (child_path x m t q k z)) ∙ same (move (t ∷ (q ++ (i ∷ [])))));
        roots = tt;
      }
    where
      same : (o : Option Path) → bind o (λ p. some (from_to p p)) ≡ bind o (λ p. bind o (λ r. some (from_to p r)))
      same none = refl
      same (some p) = refl

  pub aims : (c : Change) → Sits T c → Aims T c
  unfolding aimed place from_to front last bind news replaces_root
  aims (insert first_child x l) s =
      let (t, q, z) = some_path x s.0 in
      record { aim = within t (at_first q); goes = λ w move e. ap (λ o. bind o (λ p. some (empty_at p 0))) (present_at w move e x s.0 _ z); roots = tt }
  aims (insert after x l) s =
      let (m, k) = not_root ts x s.0 s.1 in
      let (t, q, z) = some_path m k.within in
      record {
        aim = within t (behind q (child T x));
        goes = λ w move e. ap (λ o. bind o (λ p. some (empty_at (front p) (suc (last p))))) (present_at w move e x s.0 _ (child_path x m t q k z));
        roots = tt;
      }
  aims (replace x y) s = go (root? T x) refl
    where
      at_root : (w : World) → root? T x ≡ true → (row T x).path ≡ tree T x ∷ [] → place T w (replace x y) ≡ some (record { parent = []; from = tree T x; to = suc (tree T x) })
      at_root w e z = rw (e, z)

      go : (b : Bool) → root? T x ≡ b → Aims T (replace x y)
      go true e = record { aim = root (tree T x); goes = λ w move u. at_root w e (root_is ts x s e).path; roots = (refl, λ z. rw e (eq-eqb (tree T x) 0 z)) }
      go false e = one_aims (replace x y) x s e (λ w. rw e)
  aims (delete x) s = one_aims (delete x) x s.0 s.1 (λ w. refl)
  aims (replace_with_many x l) s = one_aims (replace_with_many x l) x s.0 s.1 (λ w. refl)
  aims (replace_all x y l) s =
      let (m, k) = not_root ts x s.0 s.2 in
      let (t, q, z) = some_path m k.within in
      let k' : IsParent ts m y = parent_is ts y m s.1 (sym s.3 ∙ k.parent) in
      record {
        aim = within t (over q (child T x) (child T y) s.4);
        goes = λ w move e. rw (present_at w move e x s.0 _ (child_path x m t q k z), present_at w move e y s.1 _ (child_path y m t q k' z));
        roots = tt;
      }
