-- Paths that move: whatever the splices, a path that survives keeps its length, its parent's path survives with it, and siblings keep their order.
-- Assumes nothing.
use Rattle.std.specs.Prelude.{◌≡◌, Bool, cond, ◌&&◌, ℕ, ◌<◌}
use Rattle.std.proofs.Math.Path.{refl}
use Rattle.std.proofs.Common.{sym, ap, ◌∙◌, arith, eqb-true}
use Rattle.std.proofs.Math.Bool.{true, false}
use mathlib.Core.List.{[], ◌∷◌, ◌++◌}
use Rattle.std.proofs.Math.Option.{Option, none, some, map, bind}
use Rattle.std.proofs.Math.Dec.{eqb}
use Rattle.std.proofs.Math.ListN.{length}
use Rattle.std.proofs.lemmas.Bool.{eqb-false}
use Rattle.orders.specs.ListLaws.{some_inj, none_some, map_some, bind_some, Zone, before, inside, after, zone?}
use Rattle.orders.specs.Tree.{Path, adjust, shift}
use Rattle.orders.proofs.TreeLaws.{shift_before, shift_inside, shift_after, adjust_root, adjust_shift, adjust_in, adjust_out, adjust_length, last_same}
use Rattle.orders.specs.Splices.{same_path}

-- ── One splice ──────────────────────────────────────────────────────────────────────────────────────────────

-- children that stay keep their order
pub shift_order : (a b n i j k l : ℕ) → i < j → shift a b n i ≡ some k → shift a b n j ≡ some l → k < l
shift_order a b n i j k l h e f = go (zone? i a b) (zone? j a b)
  where
    go : Zone i a b → Zone j a b → k < l
    go (before x) (before y) = omega (arith, some_inj (sym e ∙ shift_before a b n i x), some_inj (sym f ∙ shift_before a b n j y))
    go (before x) (after y z) = omega (arith, some_inj (sym e ∙ shift_before a b n i x), some_inj (sym f ∙ shift_after a b n j y z))
    go (after x w) (before y) = absurd (omega arith)
    go (after x w) (after y z) = omega (arith, some_inj (sym e ∙ shift_after a b n i x w), some_inj (sym f ∙ shift_after a b n j y z))
    go (inside x w) z = none_some (sym (shift_inside a b n i x w) ∙ e)
    go (before x) (inside y z) = none_some (sym (shift_inside a b n j y z) ∙ f)
    go (after x w) (inside y z) = none_some (sym (shift_inside a b n j y z) ∙ f)

module _ (a b n : ℕ) where
  -- where the path of a child goes: below its parent's, and only in the spliced parent to another number
  pub adjust_child : (q p : Path) (i : ℕ) → adjust q a b n (p ++ (i ∷ [])) ≡ bind (adjust q a b n p) (λ r. map (λ k. r ++ (k ∷ [])) (cond (same_path p q) (shift a b n i) (some i)))
  unfolding bind same_path
  adjust_child [] [] i = adjust_shift a b n i [] ∙ rw (adjust_root a b n [])
  adjust_child [] (h ∷ p) i = rw (adjust_shift a b n h (p ++ (i ∷ [])), adjust_shift a b n h p) (go (shift a b n h))
    where
      go : (o : Option ℕ) → map (λ j. j ∷ (p ++ (i ∷ []))) o ≡ bind (map (λ j. j ∷ p) o) (λ r. some (r ++ (i ∷ [])))
      go none = refl
      go (some j) = refl
  adjust_child (j ∷ q) [] i = rw (adjust_root a b n (j ∷ q)) (go (eqb i j) refl)
    where
      go : (c : Bool) → eqb i j ≡ c → adjust (j ∷ q) a b n (i ∷ []) ≡ some (i ∷ [])
      go true e = adjust_in a b n i j q [] (eqb-true i j e) ∙ rw (adjust_root a b n q)
      go false e = adjust_out a b n i j q [] (eqb-false i j e)
  adjust_child (j ∷ q) (h ∷ p) i = go (eqb h j) refl (adjust_child q p i)
    where
      deeper : (o : Option Path) (m : Option ℕ) → map (λ r. h ∷ r) (bind o (λ r. map (λ k. r ++ (k ∷ [])) m)) ≡ bind (map (λ r. h ∷ r) o) (λ r. map (λ k. r ++ (k ∷ [])) m)
      deeper none m = refl
      deeper (some r) none = refl
      deeper (some r) (some k) = refl

      go : (c : Bool) → eqb h j ≡ c → adjust q a b n (p ++ (i ∷ [])) ≡ bind (adjust q a b n p) (λ r. map (λ k. r ++ (k ∷ [])) (cond (same_path p q) (shift a b n i) (some i)))
          → adjust (j ∷ q) a b n (h ∷ (p ++ (i ∷ []))) ≡ bind (adjust (j ∷ q) a b n (h ∷ p)) (λ r. map (λ k. r ++ (k ∷ [])) (cond (c && same_path p q) (shift a b n i) (some i)))
      go true e ih =
          let hj = eqb-true h j e in
          rw (adjust_in a b n h j q (p ++ (i ∷ [])) hj, adjust_in a b n h j q p hj, ih) (deeper (adjust q a b n p) (cond (same_path p q) (shift a b n i) (some i)))
      go false e ih =
          let hj = eqb-false h j e in
          rw (adjust_out a b n h j q (p ++ (i ∷ [])) hj, adjust_out a b n h j q p hj)

-- ── Any splices ─────────────────────────────────────────────────────────────────────────────────────────────

-- what a way of moving paths keeps
pub record Keeps (move : Path → Option Path) : Type 0 where
  -- the path of all trees' node stays
  pub root : move [] ≡ some []
  -- a path keeps its length
  pub size : (p q : Path) → move p ≡ some q → length q ≡ length p
  -- a child that stays is a child of its parent, which stays too
  pub child : (p q : Path) (i : ℕ) → move (p ++ (i ∷ [])) ≡ some q → (r : Path) × (k : ℕ) × (move p ≡ some r) × (q ≡ r ++ (k ∷ []))
  -- children that stay keep their order
  pub order : (p r : Path) (i j k l : ℕ) → i < j → move (p ++ (i ∷ [])) ≡ some (r ++ (k ∷ [])) → move (p ++ (j ∷ [])) ≡ some (r ++ (l ∷ [])) → k < l

-- one splice keeps it
pub adjust_keeps : (parent : Path) (a b n : ℕ) → Keeps (adjust parent a b n)
adjust_keeps parent a b n = record {
  root = adjust_root a b n parent;
  size = λ p q e. adjust_length a b n parent p q e;
  child = child;
  order = order;
}
  where
    child : (p q : Path) (i : ℕ) → adjust parent a b n (p ++ (i ∷ [])) ≡ some q → (r : Path) × (k : ℕ) × (adjust parent a b n p ≡ some r) × (q ≡ r ++ (k ∷ []))
    child p q i e =
        let (r, f, g) = bind_some (adjust parent a b n p) _ (sym (adjust_child a b n parent p i) ∙ e) in
        let (k, h, z) = map_some _ (cond (same_path p parent) (shift a b n i) (some i)) g in
        (r, k, f, sym z)

    order : (p r : Path) (i j k l : ℕ) → i < j → adjust parent a b n (p ++ (i ∷ [])) ≡ some (r ++ (k ∷ [])) → adjust parent a b n (p ++ (j ∷ [])) ≡ some (r ++ (l ∷ [])) → k < l
    order p r i j k l h e f = go (same_path p parent) (at i k e) (at j l f)
      where
        at : (i k : ℕ) → adjust parent a b n (p ++ (i ∷ [])) ≡ some (r ++ (k ∷ [])) → cond (same_path p parent) (shift a b n i) (some i) ≡ some k
        at i k e =
            let (s, f, g) = bind_some (adjust parent a b n p) _ (sym (adjust_child a b n parent p i) ∙ e) in
            let (m, h, z) = map_some _ (cond (same_path p parent) (shift a b n i) (some i)) g in
            h ∙ ap {B = Option ℕ} some (last_same s r m k z)

        go : (c : Bool) → cond c (shift a b n i) (some i) ≡ some k → cond c (shift a b n j) (some j) ≡ some l → k < l
        go true x y = shift_order a b n i j k l h x y
        go false x y = omega (arith, some_inj x, some_inj y)

-- no splice keeps it, and one after another
pub stay_keeps : Keeps (λ p. some p)
stay_keeps = record {
  root = refl;
  size = λ p q e. ap length (sym (some_inj e));
  child = λ p q i e. (p, i, refl, sym (some_inj e));
  order = λ p r i j k l h e f. omega (arith, last_same p r i k (some_inj e), last_same p r j l (some_inj f));
}

module _ (f g : Path → Option Path) (u : Keeps f) (v : Keeps g) where
  -- a child after both
  both_child : (p q : Path) (i : ℕ) → bind (f (p ++ (i ∷ []))) g ≡ some q → (r : Path) × (k : ℕ) × (f p ≡ some r) × (f (p ++ (i ∷ [])) ≡ some (r ++ (k ∷ []))) × (g (r ++ (k ∷ [])) ≡ some q)
  both_child p q i e =
      let (s, a, b) = bind_some (f (p ++ (i ∷ []))) g e in
      let (r, k, c, d) = u.child p s i a in
      (r, k, c, a ∙ ap {B = Option Path} some d, ap g (sym d) ∙ b)

  pub more_keeps : Keeps (λ p. bind (f p) g)
  unfolding bind
  more_keeps = record { root = rw u.root v.root; size = size; child = child; order = order }
    where
      size : (p q : Path) → bind (f p) g ≡ some q → length q ≡ length p
      size p q e = let (r, a, b) = bind_some (f p) g e in v.size r q b ∙ u.size p r a

      child : (p q : Path) (i : ℕ) → bind (f (p ++ (i ∷ []))) g ≡ some q → (r : Path) × (k : ℕ) × (bind (f p) g ≡ some r) × (q ≡ r ++ (k ∷ []))
      child p q i e =
          let (r, k, a, b, c) = both_child p q i e in
          let (s, l, d, z) = v.child r q k c in
          (s, l, rw a d, z)

      order : (p r : Path) (i j k l : ℕ) → i < j → bind (f (p ++ (i ∷ []))) g ≡ some (r ++ (k ∷ [])) → bind (f (p ++ (j ∷ []))) g ≡ some (r ++ (l ∷ [])) → k < l
      order p r i j k l h e e' =
          let (s, m, a, b, c) = both_child p (r ++ (k ∷ [])) i e in
          let (s', m', a', b', c') = both_child p (r ++ (l ∷ [])) j e' in
          let z : s' ≡ s = some_inj (sym a' ∙ a) in
          v.order s r m m' k l (u.order p s i j m m' h b (rw z at b')) c (rw z at c')
