-- A list of splices, parted by the root's children: what holds of the list holds of the parts.
-- Assumes nothing.
use Rattle.std.specs.Prelude.{◌≡◌, Bool, ◌&&◌, ◌≢◌, ℕ, ◌+◌, ◌≤◌}
use Rattle.std.proofs.Math.Path.{refl, sym, ap, subst}
use Rattle.std.proofs.Common.{◌∙◌, zero-add, eqb-true, eq-eqb, ne_eqb}
use Rattle.std.proofs.Math.Bool.{true, false, cond}
use mathlib.Core.List.{List, [], ◌∷◌}
use Rattle.std.proofs.Math.Option.{none, some}
use Rattle.std.proofs.Math.ListN.{length, get_elem?}
use Rattle.std.proofs.Math.Dec.{eqb}
use Rattle.orders.specs.Lists.{pick, more, All, Pairs, total}
use Rattle.orders.specs.Tree.{Tree, Trees, node, list, Path, HasRun}
use Rattle.orders.specs.Splices.{same_path, Splice, inserted, deleted, left_of, left_in, start, under, from_root, from_child, at_root, below, Enters, Fits, Apart, AllApart}
use Rattle.orders.specs.ListLaws.{some_inj, none_some, pick_none, pick_some, All-pick, Pairs-pick, Pairs-with, All-map}
use Rattle.orders.proofs.TreeLaws.{run_here, run_child}
use Rattle.orders.proofs.Left.{Ordered, OneLeft, one_left}
use Rattle.orders.proofs.Numbers.{start_among}
use Rattle.orders.proofs.Children.{Level}

-- ── The root's own, and those of a child ────────────────────────────────────────────────────────────────────

module _ {A : Type 0} where
  pub from_root_some : (x y : Splice A) → from_root x ≡ some y → (x.parent ≡ []) × (x ≡ y)
  unfolding from_root under
  from_root_some x y e = go x.parent e
    where
      go : (p : Path) → from_root (under p x) ≡ some y → (p ≡ []) × (under p x ≡ y)
      go [] q = (refl, some_inj q)
      go (i ∷ p) q = none_some q

  pub from_child_some : (i : ℕ) (x y : Splice A) → from_child i x ≡ some y → (p : Path) × (x.parent ≡ i ∷ p) × (y ≡ under p x)
  unfolding from_child under
  from_child_some i x y e = go x.parent e
    where
      on : (j : ℕ) (p : Path) (b : Bool) → eqb j i ≡ b → cond b (some (under p x)) none ≡ some y → (r : Path) × (◌≡◌ {A = Path} (j ∷ p) (i ∷ r)) × (y ≡ under r x)
      on j p true q z = (p, ap {B = Path} (λ k. k ∷ p) (eqb-true j i q), sym (some_inj z))
      on j p false q z = none_some z

      go : (p : Path) → from_child i (under p x) ≡ some y → (r : Path) × (p ≡ i ∷ r) × (y ≡ under r x)
      go [] q = none_some q
      go (j ∷ p) q = on j p (eqb j i) refl q

  pub from_child_in : (i : ℕ) (p : Path) (x : Splice A) → from_child i (under (i ∷ p) x) ≡ some (under p x)
  unfolding from_child under
  from_child_in i p x = rw (eq-eqb i i refl)

  -- one more splice: in child i or below it, in another child, in the root
  pub below_in : (i : ℕ) (p : Path) (s : Splice A) (S : List (Splice A)) → below i (under (i ∷ p) s ∷ S) ≡ under p s ∷ below i S
  unfolding below
  below_in i p s S = pick_some (from_child i) (under (i ∷ p) s) S (under p s) (from_child_in i p s)

  pub below_out : (i j : ℕ) (p : Path) (s : Splice A) (S : List (Splice A)) → j ≢ i → below i (under (j ∷ p) s ∷ S) ≡ below i S
  unfolding below from_child under
  below_out i j p s S e = pick_none (from_child i) (under (j ∷ p) s) S (rw (ne_eqb j i e))

  pub below_root : (i : ℕ) (s : Splice A) (S : List (Splice A)) → below i (under [] s ∷ S) ≡ below i S
  unfolding below pick from_child under
  below_root i s S = refl

  pub at_root_root : (s : Splice A) (S : List (Splice A)) → at_root (under [] s ∷ S) ≡ under [] s ∷ at_root S
  unfolding at_root pick from_root under
  at_root_root s S = refl

  pub at_root_child : (i : ℕ) (p : Path) (s : Splice A) (S : List (Splice A)) → at_root (under (i ∷ p) s ∷ S) ≡ at_root S
  unfolding at_root pick from_root under
  at_root_child i p s S = refl

-- ── Splices that are apart, at the root and below it ────────────────────────────────────────────────────────

module _ {A : Type 0} where
  -- what of a list all apart does not speak of the tree
  pub record Neat (S : List (Splice A)) : Type 0 where
    pub ordered : All Ordered S
    pub apart : Pairs Apart S

  pub neat : (old : Tree A) (S : List (Splice A)) → AllApart old S → Neat S
  neat old S h = record { ordered = All-map (λ s f. f.ordered) S h.fits; apart = h.apart }

  pub root_ordered : (S : List (Splice A)) → Neat S → All Ordered (at_root S)
  unfolding at_root
  root_ordered S h = All-pick from_root Ordered Ordered (λ x y e o. subst Ordered (from_root_some x y e).1 o) S h.ordered

  one_left_root : (x y x' y' : Splice A) → from_root x ≡ some y → from_root x' ≡ some y' → Ordered x × Ordered x' × Apart x x' → OneLeft y y'
  one_left_root x y x' y' e e' f =
      let (r, q) = from_root_some x y e in
      let (r', q') = from_root_some x' y' e' in
      rw q at (rw q' at (one_left x x' f.0 f.1 f.2.numbers (f.2.clear (r ∙ sym r'))))

  pub root_apart : (S : List (Splice A)) → Neat S → Pairs OneLeft (at_root S)
  unfolding at_root
  root_apart S h = Pairs-pick from_root (λ x x'. Ordered x × Ordered x' × Apart x x') OneLeft one_left_root S (Pairs-with Ordered Apart S h.ordered h.apart)

  within_root : (a : A) (cs : Trees A) (x y : Splice A) → from_root x ≡ some y → Fits (node a cs) x → y.to ≤ length (list cs)
  within_root a cs x y e f =
      let (r, q) = from_root_some x y e in
      subst (λ (z : Splice A). z.to ≤ length (list cs)) q (run_here a cs x.from x.to (subst (λ p. HasRun (node a cs) p x.from x.to) r f))

  pub root_level : (a : A) (cs : Trees A) (S : List (Splice A)) → AllApart (node a cs) S → Level (length (list cs)) (at_root S)
  unfolding at_root
  root_level a cs S h = record {
    ordered = root_ordered S (neat (node a cs) S h);
    within = All-pick from_root (Fits (node a cs)) (λ t. t.to ≤ length (list cs)) (within_root a cs) S h.fits;
    apart = root_apart S (neat (node a cs) S h);
  }

  fits_child : (a : A) (cs : Trees A) (i : ℕ) (c : Tree A) → get_elem? (list cs) i ≡ some c → (x y : Splice A) → from_child i x ≡ some y → Fits (node a cs) x → Fits c y
  unfolding under
  fits_child a cs i c g x y e f =
      let (p, r, q) = from_child_some i x y e in
      let (d, z, k) = run_child a cs i p x.from x.to (subst (λ p. HasRun (node a cs) p x.from x.to) r f) in
      subst (Fits c) (sym q) (subst (λ t. HasRun t p x.from x.to) (some_inj (sym z ∙ g)) k)

  enters_child : (i : ℕ) (x x' : Splice A) (p p' : Path) → x.parent ≡ i ∷ p → x'.parent ≡ i ∷ p' → Enters (under p x) p' → Enters x x'.parent
  unfolding under
  enters_child i x x' p p' r r' h = record { child = h.child; rest = h.rest; leads = rw (r, r') (ap {B = Path} (λ w. i ∷ w) h.leads); low = h.low; high = h.high }

  apart_child : (i : ℕ) (x y x' y' : Splice A) → from_child i x ≡ some y → from_child i x' ≡ some y' → Apart x x' → Apart y y'
  unfolding under
  apart_child i x y x' y' e e' h =
      let (p, r, q) = from_child_some i x y e in
      let (p', r', q') = from_child_some i x' y' e' in
      let k : Apart (under p x) (under p' x') = record {
        numbers = h.numbers;
        kept = λ z. h.kept (enters_child i x x' p p' r r' z);
        kept' = λ z. h.kept' (enters_child i x' x p' p r' r z);
        clear = λ z. h.clear (r ∙ ap {B = Path} (λ w. i ∷ w) z ∙ sym r');
      } in
      rw (q, q') k

  pub below_apart : (a : A) (cs : Trees A) (i : ℕ) (c : Tree A) (S : List (Splice A)) → get_elem? (list cs) i ≡ some c → AllApart (node a cs) S → AllApart c (below i S)
  unfolding below
  below_apart a cs i c S g h = record {
    fits = All-pick (from_child i) (Fits (node a cs)) (Fits c) (fits_child a cs i c g) S h.fits;
    apart = Pairs-pick (from_child i) Apart Apart (apart_child i) S h.apart;
  }

  pub below_neat : (i : ℕ) (S : List (Splice A)) → Neat S → Neat (below i S)
  unfolding below under
  below_neat i S h = record {
    ordered = All-pick (from_child i) Ordered Ordered (λ x y e o. subst Ordered (sym (from_child_some i x y e).2) o) S h.ordered;
    apart = Pairs-pick (from_child i) Apart Apart (apart_child i) S h.apart;
  }

-- ── How far a run has moved ─────────────────────────────────────────────────────────────────────────────────

module _ {A : Type 0} where
  module _ (f : Splice A → ℕ) (same-f : (p : Path) (t : Splice A) → f (under p t) ≡ f t) where
    total_root : (s : Splice A) (S : List (Splice A)) → total (left_in (under [] s)) f S ≡ total (λ t. left_of t (under [] s)) f (at_root S)
    unfolding total at_root pick from_root under left_in same_path
    total_root s [] = refl
    total_root s (t ∷ S) = go t.parent (total_root s S)
      where
        go : (p : Path) → total (left_in (under [] s)) f S ≡ total (λ t. left_of t (under [] s)) f (at_root S) → total (left_in (under [] s)) f (under p t ∷ S) ≡ total (λ t. left_of t (under [] s)) f (at_root (under p t ∷ S))
        go [] e = rw e
        go (i ∷ p) e = rw e (zero-add _)

    total_below : (i : ℕ) (P : Path) (s : Splice A) (S : List (Splice A)) → total (left_in (under (i ∷ P) s)) f S ≡ total (left_in (under P s)) f (below i S)
    unfolding total below pick from_child under left_in same_path left_of
    total_below i P s [] = refl
    total_below i P s (t ∷ S) = go t.parent (total_below i P s S)
      where
        on : (j : ℕ) (p : Path) (b : Bool) → eqb j i ≡ b → total (left_in (under (i ∷ P) s)) f S ≡ total (left_in (under P s)) f (below i S)
            → cond ((b && same_path p P) && left_of t s) (f (under (j ∷ p) t)) 0 + total (left_in (under (i ∷ P) s)) f S ≡ total (left_in (under P s)) f (more (cond b (some (under p t)) none) (below i S))
        on j p true q e = rw (e, same-f (j ∷ p) t, same-f p t)
        on j p false q e = rw e (zero-add _)

        go : (p : Path) → total (left_in (under (i ∷ P) s)) f S ≡ total (left_in (under P s)) f (below i S) → total (left_in (under (i ∷ P) s)) f (under p t ∷ S) ≡ total (left_in (under P s)) f (below i (under p t ∷ S))
        go [] e = rw e (zero-add _)
        go (j ∷ p) e = on j p (eqb j i) refl e

  pub start_below : (i : ℕ) (P : Path) (s : Splice A) (S : List (Splice A)) → start S (under (i ∷ P) s) ≡ start (below i S) (under P s)
  unfolding start inserted deleted under
  start_below i P s S = cc (total_below inserted (λ p t. refl) i P s S, total_below deleted (λ p t. refl) i P s S)

  pub start_root : (s : Splice A) (S : List (Splice A)) → start S (under [] s) ≡ start_among (at_root S) (under [] s)
  unfolding start start_among inserted deleted under
  start_root s S = cc (total_root inserted (λ p t. refl) s S, total_root deleted (λ p t. refl) s S)
