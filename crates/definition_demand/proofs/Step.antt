-- One step of a run: in tree 0 it does one splice where its target's present path tells, and elsewhere it leaves tree 0.
-- Assumes nothing.
use Rattle.std.specs.Prelude.{◌≡◌, false, List, [], ◌∷◌, ◌++◌, map, length}
use Rattle.std.proofs.Math.Path.{refl, sym, ap}
use Rattle.std.proofs.Common.{◌∙◌, subst, arith, length-append, ne_eqb}
use Rattle.std.proofs.lemmas.Simd.{map-map}
use Rattle.std.proofs.Math.Option.{Option, none, some, bind}
use Prim.Native.Nat.{ℕ, zero, suc, ◌<◌}
use Rattle.std.proofs.lemmas.List.{length-map}
use Rattle.orders.specs.ListLaws.{bool_absurd, some_inj, map_some}
use Rattle.orders.specs.Tree.{Tree, Path, front, last}
use Rattle.orders.specs.Tree as Tree
use Rattle.orders.specs.Splices.{Splice, State, perform_at}
use Rattle.orders.proofs.Target.{Target, first_child, after_child, children, run_by_target}
use Rattle.definition.specs.Basics.{gives, refuse, or_refuse}
use Rattle.definition.specs.Elements.{Table, table}
use Rattle.definition.specs.Planning.{Planned}
use Rattle.definition.specs.Rewriting.{Note}
use Rattle.definition.specs.Running.{World, begin, Yield, yield, news, Run, from_to, empty_at, place, spliced, too_large, recorded_by, step}
use Rattle.definition.specs.Performed.{in_tree0, to_splice, yields, told}
use Rattle.definition_laws.specs.Answers.{gives_inj, given, is_there, bound}
use Rattle.definition_laws.specs.Right.{Sits}
use Rattle.definition_demand.proofs.Tree0.{Tree0, in_tree0_lem, in_other, other_root}
use Rattle.definition_demand.specs.Aims.{Below, Aim, aimed, old_run, replaces_root, AtRoot, Aims}
use Rattle.definition_demand.specs.Aims.{at_first, behind, over, within, root}
use Rattle.definition_demand.proofs.Aims.{aimed_old, aims}

-- ── Present paths of tree 0 and of others ───────────────────────────────────────────────────────────────────

front_deep : (t : ℕ) (p : Path) → 0 < length p → (front (t ∷ p) ≡ t ∷ front p) × (last (t ∷ p) ≡ last p)
unfolding front last
front_deep t [] h = absurd (omega arith)
front_deep t (i ∷ p) h = (refl, refl)

module _ (T : Table) (w : World) (now : State ℕ) (h : Tree0 T w now) where
  -- the present path of a child has a parent's path in front
  child_deep : (t i : ℕ) (q p : Path) → h.move (t ∷ (q ++ (i ∷ []))) ≡ some (t ∷ p) → (front (t ∷ p) ≡ t ∷ front p) × (last (t ∷ p) ≡ last p)
  child_deep t i q p e = front_deep t p (omega (arith, h.keeps.size (t ∷ (q ++ (i ∷ []))) (t ∷ p) e, length-append q (i ∷ [])))

  -- in tree 0, what survives is where the state has it
  path_here : (e p : Path) → h.move (0 ∷ e) ≡ some p → (q : Path) × (now.path e ≡ some q) × (p ≡ 0 ∷ q)
  path_here e p z = let (q, x, y) = map_some (λ (q : Path). 0 ∷ q) (now.path e) (sym (h.here e) ∙ z) in (q, x, sym y)

  child_here : (q : Path) (i : ℕ) (p : Path) → h.move (0 ∷ (q ++ (i ∷ []))) ≡ some p → (r : Path) × (now.path (q ++ (i ∷ [])) ≡ some r) × (front p ≡ 0 ∷ front r) × (last p ≡ last r)
  child_here q i p z =
      let (r, x, y) = path_here (q ++ (i ∷ [])) p z in
      let (a, b) = child_deep 0 i q r (z ∙ ap {B = Option Path} some y) in
      (r, x, ap front y ∙ a, ap last y ∙ b)

  -- elsewhere, a place stays in its tree
  child_other : (t : ℕ) (q : Path) (i : ℕ) (p : Path) → h.move (suc t ∷ (q ++ (i ∷ []))) ≡ some p → (r : Path) × (front p ≡ suc t ∷ r)
  child_other t q i p z =
      let (r, y) = h.elsewhere t (q ++ (i ∷ [])) p z in
      (front r, ap front y ∙ (child_deep (suc t) i q r (z ∙ ap {B = Option Path} some y)).0)

  aimed_other : (t : ℕ) (b : Below) (r : Run) → aimed (within (suc t) b) h.move ≡ some r → (q : Path) × (r.parent ≡ suc t ∷ q)
  unfolding aimed empty_at from_to
  aimed_other t (at_first q) r e = bound (h.move (suc t ∷ q)) _ e λ p x y. let (u, v) = h.elsewhere t q p x in (u, ap (λ (r : Run). r.parent) (sym (some_inj y)) ∙ v)
  aimed_other t (behind q i) r e =
      bound (h.move (suc t ∷ (q ++ (i ∷ [])))) _ e λ p x y. let (u, v) = child_other t q i p x in (u, ap (λ (r : Run). r.parent) (sym (some_inj y)) ∙ v)
  aimed_other t (over q i j l) r e =
      bound (h.move (suc t ∷ (q ++ (i ∷ [])))) _ e λ p x y. bound (h.move (suc t ∷ (q ++ (j ∷ [])))) _ y λ p' x' y'.
      let (u, v) = child_other t q i p x in
      (u, ap (λ (r : Run). r.parent) (sym (some_inj y')) ∙ v)

-- ── The splice of a step, and its target ────────────────────────────────────────────────────────────────────

-- the splice in tree 0 that aims so
abbrev pub aim_splice : ℕ → Below → List (Tree ℕ) → Splice ℕ
aim_splice n b new = to_splice (n, (old_run b, new))

unfoldable pub aim_target : (n : ℕ) (b : Below) (new : List (Tree ℕ)) → Target (aim_splice n b new)
unfolding to_splice
aim_target n (at_first q) new = first_child refl refl
aim_target n (behind q i) new = after_child i refl refl
aim_target n (over q i j l) new = children i j l refl refl

-- a run of tree 0, among all trees
abbrev from_top : Tree.Run → Run
from_top r = record { parent = 0 ∷ r.parent; from = r.from; to = r.to }

same_run : {q q' : Path} {a a' b b' : ℕ} → q ≡ q' → a ≡ a' → b ≡ b' → ◌≡◌ {A = Run} (record { parent = q; from = a; to = b }) (record { parent = q'; from = a'; to = b' })
same_run x y z = cc

module _ (T : Table) (w : World) (now : State ℕ) (h : Tree0 T w now) (n : ℕ) (new : List (Tree ℕ)) where
  -- a change that aims into tree 0 goes where the splice's target tells
  aimed_here : (b : Below) (r : Run) → aimed (within 0 b) h.move ≡ some r → (s : Tree.Run) × (r ≡ from_top s) × (run_by_target now.path (aim_splice n b new) (aim_target n b new) ≡ some s)
  unfolding aimed empty_at from_to to_splice aim_target run_by_target bind
  aimed_here (at_first q) r e =
      bound (h.move (0 ∷ q)) _ e λ p x y.
      let (p', u, v) = path_here T w now h q p x in
      (record { parent = p'; from = 0; to = 0 }, sym (some_inj y) ∙ same_run v refl refl, rw u)
  aimed_here (behind q i) r e =
      bound (h.move (0 ∷ (q ++ (i ∷ [])))) _ e λ p x y.
      let (p', u, v, z) = child_here T w now h q i p x in
      (record { parent = front p'; from = suc (last p'); to = suc (last p') }, sym (some_inj y) ∙ same_run v (ap suc z) (ap suc z), rw u)
  aimed_here (over q i j l) r e =
      bound (h.move (0 ∷ (q ++ (i ∷ [])))) _ e λ p x y. bound (h.move (0 ∷ (q ++ (j ∷ [])))) _ y λ m x' y'.
      let (p', u, v, z) = child_here T w now h q i p x in
      let (m', u', v', z') = child_here T w now h q j m x' in
      (record { parent = front p'; from = last p'; to = suc (last m') }, sym (some_inj y') ∙ same_run v z (ap suc z'), rw (u, u'))

-- ── One step ────────────────────────────────────────────────────────────────────────────────────────────────

-- what a step told as m makes of tree 0: nothing, or a splice where its target tells, whatever its number
pub data Stepped (T : Table) (first : World) (now : State ℕ) (m : World × Planned) (next : World) : Type 0 where
  apart : told T first m ≡ none → Tree0 T next now → Stepped T first now m next
  done : (b : Below) → told T first m ≡ some (old_run b, yields T first m)
      → ((n : ℕ) → (r : Tree.Run) × (run_by_target now.path (aim_splice n b (yields T first m)) (aim_target n b (yields T first m)) ≡ some r) × Tree0 T next (perform_at r (aim_splice n b (yields T first m)) now))
      → Stepped T first now m next

module _ (ts : List (Tree ℕ)) (notes : List Note) where
  abbrev T : Table
  T = table 0 0 ts

  abbrev first : World
  first = begin ts T notes

  told_aimed : (w : World) (p : Planned) (a : Aims T p.change) → told T first (w, p) ≡ bind (aimed a.aim (λ p. some p)) (λ r. bind (in_tree0 r) (λ s. some (s, yields T first (w, p))))
  unfolding told begin
  told_aimed w p a = ap (λ o. bind o (λ r. bind (in_tree0 r) (λ s. some (s, yields T first (w, p))))) (a.goes first (λ p. some p) refl)

  told_within : (w : World) (p : Planned) (t : ℕ) (b : Below) → told T first (w, p) ≡ bind (aimed (within t b) (λ p. some p)) (λ r. bind (in_tree0 r) (λ s. some (s, yields T first (w, p))))
      → told T first (w, p) ≡ bind (in_tree0 (record { parent = t ∷ (old_run b).parent; from = (old_run b).from; to = (old_run b).to })) (λ s. some (s, yields T first (w, p)))
  unfolding bind
  told_within w p t b e = e ∙ ap (λ o. bind o (λ r. bind (in_tree0 r) (λ s. some (s, yields T first (w, p))))) (aimed_old t b)

  not_tree0 : (t : ℕ) (q : Path) (a b : ℕ) → in_tree0 (record { parent = suc t ∷ q; from = a; to = b }) ≡ none
  unfolding in_tree0
  not_tree0 t q a b = rw (ne_eqb (suc t) 0 (λ z. omega arith))

  yielded : (w : World) (l : List ℕ) → map (λ y. y.tree) (map (yield first w) l) ≡ map (λ e. (yield first w e).tree) l
  yielded w l = map-map (λ y. y.tree) (yield first w) l

  module _ (w : World) (p : Planned) (now : State ℕ) (h : Tree0 T w now) where
    abbrev new : List Yield
    new = map (yield first w) (news p.change)

    there : (r : Run) (i : ℕ) (q : Path) → r.parent ≡ suc i ∷ q → Tree0 T (spliced r new (recorded_by T p) w) now
    there r i q x = subst (λ (u : Path). Tree0 T (spliced (record { parent = u; from = r.from; to = r.to }) new (recorded_by T p) w) now) (sym x) (in_other T w now h new (recorded_by T p) i q r.from r.to)

    -- by where the change aims
    by_aim : (r : Run) (a : Aim) → AtRoot T p.change a → replaces_root T p.change ≡ false → told T first (w, p) ≡ bind (aimed a (λ p. some p)) (λ r. bind (in_tree0 r) (λ s. some (s, yields T first (w, p))))
        → aimed a h.move ≡ some r → Stepped T first now (w, p) (spliced r new (recorded_by T p) w)
    unfolding aimed in_tree0 bind yields to_splice
    by_aim r (root zero) o k t e = bool_absurd (o.1 refl) k
    by_aim r (root (suc i)) o k t e = rw (← some_inj e) (apart t (other_root T w now h new (recorded_by T p) i (length-map (news p.change) (yield first w) ∙ o.0)))
    by_aim r (within (suc i) b) o k t e =
        let (q, x) = aimed_other T w now h i b r e in
        apart (told_within w p (suc i) b t ∙ ap (λ o. bind o (λ s. some (s, yields T first (w, p)))) (not_tree0 i _ _ _)) (there r i q x)
    by_aim r (within zero b) o k t e = done b (told_within w p 0 b t) one
      where
        here : (n : ℕ) (s : Tree.Run) → r ≡ from_top s → Tree0 T (spliced r new (recorded_by T p) w) (perform_at s (aim_splice n b (yields T first (w, p))) now)
        here n s x = rw x (in_tree0_lem T w now h new (recorded_by T p) s.parent s.from s.to (aim_splice n b (yields T first (w, p))) (yielded w (news p.change)))

        one : (n : ℕ) → (s : Tree.Run) × (run_by_target now.path (aim_splice n b (yields T first (w, p))) (aim_target n b (yields T first (w, p))) ≡ some s)
            × Tree0 T (spliced r new (recorded_by T p) w) (perform_at s (aim_splice n b (yields T first (w, p))) now)
        one n =
            let (s, x, y) = aimed_here T w now h n (yields T first (w, p)) b r e in
            (s, y, here n s x)

  -- a step that is not refused, of a change that leaves the root of tree 0
  pub stepped : (w next : World) (p : Planned) (now : State ℕ) → Tree0 T w now → Sits T p.change → replaces_root T p.change ≡ false → step T first w p ≡ gives next → Stepped T first now (w, p) next
  unfolding step
  stepped w next p now h s k e =
      given (or_refuse 11 (place T w p.change)) _ e λ r x e.
      given (refuse 12 (too_large (spliced r (map (yield first w) (news p.change)) (recorded_by T p) w))) _ e λ u y e.
      let a = aims ts p.change s in
      rw (← gives_inj e) (by_aim w p now h r a.aim a.roots k (told_aimed w p a) (sym (a.goes w h.move h.paths) ∙ is_there 11 _ x))
