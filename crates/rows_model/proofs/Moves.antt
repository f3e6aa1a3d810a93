-- A splice moves paths and places alike; places tell paths apart.
-- Assumes nothing.
use Rattle.std.specs.Prelude.{◌≡◌, refl, cond, ℕ, suc, ◌+◌, ◌-◌, ◌≤◌, ◌<◌, eqb}
use Rattle.std.proofs.Common.{sym, ap, ◌∙◌, eq-eqb, ne_eqb, length-append, take-add, length-take-le}
use mathlib.Core.List.{List, [], ◌∷◌, ◌++◌}
use Rattle.std.proofs.Math.Option.{Option, none, some, map}
use native.Mathlib.Omega.{arith}
use Rattle.std.proofs.Math.ListN.{length, take, drop, get_elem?}
use Rattle.std.proofs.Math.Seq.{take-append-add}
use Rattle.orders.specs.Tree.{Tree, Trees, node, token, list, forest, Path, resolve, adjust, shift, modify, splice, HasRun, strip}
use Rattle.orders.specs.ListLaws.{some_inj, none_some, Zone, before, inside, after, zone?, zone_before, zone_inside, zone_after, get_take, get_cut_before, get_cut_after, take_cut_before, get_modify, get_modify_other, take_modify, take_modify_before}
use Rattle.orders.proofs.TreeLaws.{resolve_child, run_here, run_child, shift_before, shift_inside, shift_after, shift_add, adjust_root, adjust_shift, adjust_in, adjust_out}
use Rattle.rows_model.specs.Place.{size, size_all, place, in_run}
use Rattle.rows_model.proofs.RowLaws.{size_pos, size_all_append, rows_get, rows_modify}
use Rattle.rows_model.proofs.PlaceLaws.{place_at, place_forest, place_child, place_bound, place_lt, size_all_suc, size_all_mono, run_order, run_after, run_within, size_splice}

some≡ : {x y : ℕ} → x ≡ y → ◌≡◌ {A = Option ℕ} (some x) (some y)
some≡ e = ap {B = Option ℕ} some e

-- ── Places tell paths apart ─────────────────────────────────────────────────────────────────────────────────

-- what is in an earlier child ends before what is in a later one
child_order : (k : ℕ) (cs : Trees ℕ) (i j : ℕ) (e f : Path) (c d u : Tree ℕ) → i < j → get_elem? (list cs) i ≡ some c → resolve e c ≡ some u → get_elem? (list cs) j ≡ some d
    → place (i ∷ e) (node k cs) + size u ≤ place (j ∷ f) (node k cs)
child_order k cs i j e f c d u h g z g' =
    rw (place_at k cs i e c g, place_at k cs j f d g') (omega (arith, place_bound e c u z, size_all_suc (list cs) i c g, size_all_mono (list cs) (suc i) j h))

-- the place below a child
in_child : (k : ℕ) (cs : Trees ℕ) (i j : ℕ) (e : Path) (c : Tree ℕ) → j ≡ i → get_elem? (list cs) i ≡ some c → place (j ∷ e) (node k cs) ≡ suc (size_all (take i (list cs))) + place e c
in_child k cs i j e c ji g = rw ji (place_at k cs i e c g ∙ omega arith)

-- in one tree two paths with the same place are the same path
pub place_inj : (e f : Path) (t u v : Tree ℕ) → resolve e t ≡ some u → resolve f t ≡ some v → place e t ≡ place f t → e ≡ f
unfolding resolve
place_inj [] [] t u v a b s = refl
place_inj [] (j ∷ f) (token k x) u v a b s = none_some b
place_inj [] (j ∷ f) (node k cs) u v a b s = absurd (omega arith)
place_inj (i ∷ e) [] (token k x) u v a b s = none_some a
place_inj (i ∷ e) [] (node k cs) u v a b s = absurd (omega arith)
place_inj (i ∷ e) (j ∷ f) (token k x) u v a b s = none_some a
place_inj (i ∷ e) (j ∷ f) (node k cs) u v a b s =
    let (c, g, z) = resolve_child k cs i e u a in
    let (d, g', z') = resolve_child k cs j f v b in
    go c g z d g' z' (zone? i j (suc j)) (λ y. place_inj e f c u v z y)
  where
    go : (c : Tree ℕ) → get_elem? (list cs) i ≡ some c → resolve e c ≡ some u → (d : Tree ℕ) → get_elem? (list cs) j ≡ some d → resolve f d ≡ some v → Zone i j (suc j) → (resolve f c ≡ some v → place e c ≡ place f c → e ≡ f) → i ∷ e ≡ j ∷ f
    go c g z d g' z' (before h) ih = absurd (omega (arith, child_order k cs i j e f c d u h g z g', size_pos u))
    go c g z d g' z' (inside h l) ih =
        let ji : j ≡ i = omega arith in
        let cd : d ≡ c = some_inj (sym g' ∙ (ap (get_elem? (list cs)) ji ∙ g)) in
        rw (ji, ih (rw cd at z') (omega (arith, in_child k cs i i e c refl g, in_child k cs i j f c ji g)))
    go c g z d g' z' (after h l) ih = absurd (omega (arith, child_order k cs j i f e d c v l g' z' g, size_pos v))

-- ── What is at or below an element ──────────────────────────────────────────────────────────────────────────

pub in_run_before : (p q x : ℕ) → x < p → in_run p q x ≡ none
unfolding in_run
in_run_before p q x h = zone_before x p q _ _ _ h

in_run_inside : (p q x y : ℕ) → x ≡ p + y → x < q → in_run p q x ≡ some y
unfolding in_run
in_run_inside p q x y e h = zone_inside x p q _ _ _ (omega arith) h ∙ some≡ (omega arith)

in_run_after : (p q x : ℕ) → p ≤ q → q ≤ x → in_run p q x ≡ none
unfolding in_run
in_run_after p q x h l = zone_after x p q _ _ _ (omega arith) l

in_run_add : (d p q x P Q X : ℕ) → p ≤ q → P ≡ d + p → Q ≡ d + q → X ≡ d + x → in_run p q x ≡ in_run P Q X
in_run_add d p q x P Q X h a b c = elim (zone? x p q) [
  | before k ↦ in_run_before p q x k ∙ sym (in_run_before P Q X (omega arith))
  | inside k l ↦ in_run_inside p q x (x - p) (omega arith) l ∙ sym (in_run_inside P Q X (x - p) (omega arith) (omega arith))
  | after k l ↦ in_run_after p q x h l ∙ sym (in_run_after P Q X (omega arith) (omega arith))
]

-- A path is at or below the element u at `top` just where its place is one of the rows of u; told from u, it is the rest of the path.
pub strip_place : (top e : Path) (t u v : Tree ℕ) → resolve top t ≡ some u → resolve e t ≡ some v → map (λ r. place r u) (strip top e) ≡ in_run (place top t) (place top t + size u) (place e t)
unfolding resolve strip
strip_place [] e t u v a b = rw (← some_inj a) (sym (in_run_inside 0 (0 + size t) (place e t) (place e t) (omega arith) (omega (arith, place_lt e t v b))))
strip_place (i ∷ top) [] (token k x) u v a b = none_some a
strip_place (i ∷ top) [] (node k cs) u v a b = sym (in_run_before (place (i ∷ top) (node k cs)) (place (i ∷ top) (node k cs) + size u) 0 (omega arith))
strip_place (i ∷ top) (j ∷ e) (token k x) u v a b = none_some a
strip_place (i ∷ top) (j ∷ e) (node k cs) u v a b =
    let (c, g, z) = resolve_child k cs i top u a in
    let (d, g', z') = resolve_child k cs j e v b in
    go c g z d g' z' (zone? j i (suc i)) (strip_place top e c u v z)
  where
    P : ℕ
    P = place (i ∷ top) (node k cs)

    X : ℕ
    X = place (j ∷ e) (node k cs)

    go : (c : Tree ℕ) → get_elem? (list cs) i ≡ some c → resolve top c ≡ some u → (d : Tree ℕ) → get_elem? (list cs) j ≡ some d → resolve e d ≡ some v → Zone j i (suc i)
        → (resolve e c ≡ some v → map (λ r. place r u) (strip top e) ≡ in_run (place top c) (place top c + size u) (place e c))
        → map (λ r. place r u) (cond (eqb i j) (strip top e) none) ≡ in_run P (P + size u) X
    go c g z d g' z' (before h) ih = rw (ne_eqb i j (λ y. omega arith)) (sym (in_run_before P (P + size u) X (omega (arith, child_order k cs j i e top d c v h g' z' g, size_pos v))))
    go c g z d g' z' (inside h l) ih =
        let ji : j ≡ i = omega arith in
        let cd : d ≡ c = some_inj (sym g' ∙ (ap (get_elem? (list cs)) ji ∙ g)) in
        let p = in_child k cs i i top c refl g in
        rw (eq-eqb i j (sym ji)) (ih (rw cd at z') ∙ in_run_add (suc (size_all (take i (list cs)))) (place top c) (place top c + size u) (place e c) P (P + size u) X (omega arith) p (omega arith) (in_child k cs i j e c ji g))
    go c g z d g' z' (after h l) ih = rw (ne_eqb i j (λ y. omega arith)) (sym (in_run_after P (P + size u) X (omega arith) (child_order k cs i j top e c d u l g z g')))

-- ── The children after a splice ─────────────────────────────────────────────────────────────────────────────

module _ (f : Tree ℕ → Tree ℕ) where
  size_all_changed : (ts : List (Tree ℕ)) (j : ℕ) (d : Tree ℕ) → get_elem? ts j ≡ some d → size_all (modify j f ts) + size d ≡ size_all ts + size (f d)
  size_all_changed ts j d g =
      let was : size_all ts ≡ size_all (take j ts) + (size d + size_all (drop (suc j) ts)) = ap length (rows_get ts j d g) ∙ simp length-append in
      let is : size_all (modify j f ts) ≡ size_all (take j ts) + (size (f d) + size_all (drop (suc j) ts)) = ap length (rows_modify f ts j d g) ∙ simp length-append in
      omega arith

  size_all_modify : (ts : List (Tree ℕ)) (j i : ℕ) (d : Tree ℕ) → j < i → get_elem? ts j ≡ some d → size_all (take i (modify j f ts)) + size d ≡ size_all (take i ts) + size (f d)
  size_all_modify ts j i d h g = rw (take_modify f i ts j h) (size_all_changed (take i ts) j d (get_take i ts j h ∙ g))

size_all_cut : (ts new : List (Tree ℕ)) (a b : ℕ) → a ≤ b → b ≤ length ts → (i : ℕ) → b ≤ i
    → size_all (take (i + length new - (b - a)) (take a ts ++ (new ++ drop b ts))) + size_all (take b ts) ≡ size_all (take a ts) + size_all new + size_all (take i ts)
size_all_cut ts new a b h k i w =
    let j : i + length new - (b - a) ≡ length (take a ts) + (length new + (i - b)) = omega (arith, length-take-le a ts (omega arith)) in
    let i' : i ≡ b + (i - b) = omega arith in
    let is : size_all (take (i + length new - (b - a)) (take a ts ++ (new ++ drop b ts))) ≡ size_all (take a ts) + (size_all new + size_all (take (i - b) (drop b ts))) =
    rw (j, take-append-add (take a ts) (new ++ drop b ts) (length new + (i - b)), take-append-add new (drop b ts) (i - b), size_all_append (take a ts) (new ++ take (i - b) (drop b ts)), size_all_append new (take (i - b) (drop b ts))) in
    let was : size_all (take i ts) ≡ size_all (take b ts) + size_all (take (i - b) (drop b ts)) = ap (λ (n : ℕ). size_all (take n ts)) i' ∙ (ap size_all (take-add b (i - b) ts) ∙ size_all_append (take b ts) (take (i - b) (drop b ts))) in
    omega arith

-- ── Paths move as places do ─────────────────────────────────────────────────────────────────────────────────

-- a splice in the root itself
module _ (k : ℕ) (cs : Trees ℕ) (a b : ℕ) (new : List (Tree ℕ)) (h : a ≤ b) (r : b ≤ length (list cs)) (i : ℕ) (e : Path) (c : Tree ℕ) (g : get_elem? (list cs) i ≡ some c) (z : place e c < size c) where
  adjust_top : (P Q X : ℕ) → P ≡ suc (size_all (take a (list cs))) → Q ≡ suc (size_all (take b (list cs))) → X ≡ suc (size_all (take i (list cs)) + place e c)
      → map (λ y. place y (splice [] a b new (node k cs))) (adjust [] a b (length new) (i ∷ e)) ≡ shift P Q (size_all new) X
  unfolding splice
  adjust_top P Q X e_p e_q e_x =
      let l : List (Tree ℕ) = list cs in
      let l' : List (Tree ℕ) = take a l ++ (new ++ drop b l) in
      let one = size_all_suc l i c g in
      rw (adjust_shift a b (length new) i e) (elim (zone? i a b) [
        | before w ↦ rw (shift_before a b (length new) i w, shift_before P Q (size_all new) X (omega (arith, size_all_mono l (suc i) a w)))
            (some≡ (place_forest k l' i e c (get_cut_before l new a b h r i w ∙ g) ∙ rw (take_cut_before l new a b h r i (omega arith)) (sym e_x)))
        | inside w u ↦ rw (shift_inside a b (length new) i w u, shift_inside P Q (size_all new) X (omega (arith, size_all_mono l a i w)) (omega (arith, size_all_mono l (suc i) b u)))
        | after w u ↦ rw (shift_after a b (length new) i w u, shift_after P Q (size_all new) X (omega (arith, size_all_mono l a i w)) (omega (arith, size_all_mono l b i u)))
            (some≡ (place_forest k l' (i + length new - (b - a)) e c (get_cut_after l new a b h r i u ∙ g) ∙ omega (arith, size_all_cut l new a b h r i u, size_all_mono l a b h, size_all_mono l b i u)))
      ])

-- a place in a child, before and after
in_place : (d p q m x P Q X : ℕ) (F G : Path → ℕ) (o : Option Path) → p ≤ q → P ≡ d + p → Q ≡ d + q → X ≡ d + x → ((y : Path) → F y ≡ d + G y) → map G o ≡ shift p q m x → map F o ≡ shift P Q m X
in_place d p q m x P Q X F G o h a b c e s = rw (a, b, c, ← shift_add d p q m x h, ← s) (go o)
  where
    go : (o : Option Path) → map F o ≡ map (λ j. d + j) (map G o)
    go none = refl
    go (some y) = some≡ (e y)

map_cons : (i : ℕ) (F : Path → ℕ) (o : Option Path) → map F (map (λ r. i ∷ r) o) ≡ map (λ r. F (i ∷ r)) o
map_cons i F none = refl
map_cons i F (some y) = refl

-- a splice in a child of the root, or below it
module _ (k : ℕ) (cs : Trees ℕ) (j : ℕ) (q : Path) (a b : ℕ) (new : List (Tree ℕ)) (d : Tree ℕ) (gd : get_elem? (list cs) j ≡ some d) (m : HasRun d q a b) where
  adjust_deep : (i : ℕ) (e : Path) (c : Tree ℕ) → get_elem? (list cs) i ≡ some c → place e c < size c
      → (c ≡ d → map (λ r. place r (splice q a b new d)) (adjust q a b (length new) e) ≡ shift (place (q ++ (a ∷ [])) d) (place (q ++ (b ∷ [])) d) (size_all new) (place e d))
      → map (λ r. place r (splice (j ∷ q) a b new (node k cs))) (adjust (j ∷ q) a b (length new) (i ∷ e))
      ≡ shift (place (j ∷ (q ++ (a ∷ []))) (node k cs)) (place (j ∷ (q ++ (b ∷ []))) (node k cs)) (size_all new) (place (i ∷ e) (node k cs))
  unfolding splice
  adjust_deep i e c g z ih = elim (zone? i j (suc j)) [
    | before w ↦ rw (adjust_out a b (length new) i j q e (λ y. omega arith), shift_before P Q (size_all new) X (omega (arith, p, x, size_all_suc l i c g, size_all_mono l (suc i) j w)))
        (some≡ (place_forest k l' i e c (get_modify_other f l j i (λ y. omega arith) ∙ g) ∙ rw (take_modify_before f i l j (omega arith)) (sym x)))
    | inside w u ↦
        let ij : i ≡ j = omega arith in
        let cd : c ≡ d = some_inj (sym g ∙ (ap (get_elem? l) ij ∙ gd)) in
        rw (adjust_in a b (length new) i j q e ij)
        (map_cons i (λ r. place r (node k (forest l'))) (adjust q a b (length new) e)
        ∙ in_place D (place (q ++ (a ∷ [])) d) (place (q ++ (b ∷ [])) d) (size_all new) (place e d) P Q X (λ y. place (i ∷ y) (node k (forest l'))) (λ y. place y (f d)) (adjust q a b (length new) e)
        (run_order q d a b m) p p' (in_child k cs j i e d ij gd)
        (λ y. rw ij (place_forest k l' j y (f d) (get_modify f l j d gd) ∙ rw (take_modify_before f j l j (omega arith)) (omega arith))) (ih cd))
    | after w u ↦ rw (adjust_out a b (length new) i j q e (λ y. omega arith), shift_after P Q (size_all new) X (omega (arith, p, p', run_order q d a b m, last u)) (last u))
        (some≡ (place_forest k l' i e c (get_modify_other f l j i (λ y. omega arith) ∙ g) ∙ omega (arith, p, p', last u, x, size_all_modify f l j i d u gd, size_splice q d a b m new, run_order q d a b m)))
  ]
    where
      l : List (Tree ℕ)
      l = list cs

      f : Tree ℕ → Tree ℕ
      f y = splice q a b new y

      l' : List (Tree ℕ)
      l' = modify j f l

      D : ℕ
      D = suc (size_all (take j l))

      P : ℕ
      P = place (j ∷ (q ++ (a ∷ []))) (node k cs)

      Q : ℕ
      Q = place (j ∷ (q ++ (b ∷ []))) (node k cs)

      X : ℕ
      X = place (i ∷ e) (node k cs)

      p : P ≡ D + place (q ++ (a ∷ [])) d
      p = in_child k cs j j (q ++ (a ∷ [])) d refl gd

      p' : Q ≡ D + place (q ++ (b ∷ [])) d
      p' = in_child k cs j j (q ++ (b ∷ [])) d refl gd

      x : X ≡ suc (size_all (take i l) + place e c)
      x = place_at k cs i e c g

      last : j < i → Q ≤ X
      last u = omega (arith, p', x, run_within q d a b m, size_all_suc l j d gd, size_all_mono l (suc j) i u)

-- THE LAW: where a path survives it leads to the shifted place, and it is dropped just where its place is in the run.
pub adjust_place : (q : Path) (t : Tree ℕ) (a b : ℕ) (new : List (Tree ℕ)) (e : Path) (v : Tree ℕ) → HasRun t q a b → resolve e t ≡ some v
    → map (λ r. place r (splice q a b new t)) (adjust q a b (length new) e) ≡ shift (place (q ++ (a ∷ [])) t) (place (q ++ (b ∷ [])) t) (size_all new) (place e t)
unfolding resolve
adjust_place q t a b new [] v h f = rw (adjust_root a b (length new) q) (sym (shift_before (place (q ++ (a ∷ [])) t) (place (q ++ (b ∷ [])) t) (size_all new) 0 (omega (arith, run_after q t a b h))))
adjust_place [] (token k x) a b new (i ∷ e) v h f = none_some f
adjust_place [] (node k cs) a b new (i ∷ e) v h f =
    let (c, g, z) = resolve_child k cs i e v f in
    adjust_top k cs a b new h.ordered (run_here k cs a b h) i e c g (place_lt e c v z) _ _ _ (place_child k cs a) (place_child k cs b) (place_at k cs i e c g)
adjust_place (j ∷ q) (token k x) a b new (i ∷ e) v h f = none_some f
adjust_place (j ∷ q) (node k cs) a b new (i ∷ e) v h f =
    let (c, g, z) = resolve_child k cs i e v f in
    let (d, gd, m) = run_child k cs j q a b h in
    adjust_deep k cs j q a b new d gd m i e c g (place_lt e c v z) (λ y. adjust_place q d a b new e v m (rw y at z))
