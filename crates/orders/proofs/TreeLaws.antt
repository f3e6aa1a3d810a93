-- Laws on trees, paths and one splice done. Others use them too.
-- Assumes nothing.
use Rattle.std.proofs.Math.Path.{◌≡◌, refl, sym, ap}
use Rattle.std.proofs.Common.{◌∙◌}
use Rattle.std.specs.Prelude.{Bool, cond, ◌≢◌, take}
use Rattle.std.proofs.Math.Bool.{true, false}
use mathlib.Core.List.{List, [], ◌∷◌, ◌++◌}
use Rattle.std.proofs.Math.Option.{Option, none, some, map, bind}
use Prim.Native.Nat.{ℕ, zero, suc, ◌+◌, ◌-◌, ◌≤◌, ◌<◌}
use native.Mathlib.Omega.{arith}
use Rattle.std.proofs.Math.Dec.{eqb}
use Rattle.std.proofs.Math.ListN.{length, drop, get_elem?}
use borrow.Author.Tests.{eqb-true, eqb-false, eq-eqb, ne_eqb}
use Rattle.orders.specs.Tree.{Tree, Trees, node, token, nil, cons, list, forest, label, Path, resolve, adjust, shift, modify, splice, HasRun, elements, elements_of, strip, front, last}
use Rattle.orders.specs.ListLaws.{get_lt, some_inj, none_some, map_some, bind_some, Zone, before, inside, after, zone?, zone_before, zone_inside, zone_after, get_cut_before, get_cut_new, get_cut_after, get_modify, get_modify_other, parts}

-- ── Trees and lists ─────────────────────────────────────────────────────────────────────────────────────────

module _ {A : Type 0} where
  pub list_forest : (xs : List (Tree A)) → list (forest xs) ≡ xs
  unfolding list forest
  list_forest [] = refl
  list_forest (x ∷ xs) = ap {B = List (Tree A)} (λ r. x ∷ r) (list_forest xs)

  pub forest_list : (cs : Trees A) → forest (list cs) ≡ cs
  unfolding forest list
  forest_list nil = refl
  forest_list (cons c cs) = ap (cons c) (forest_list cs)

  pub elements_append : (xs ys : List (Tree A)) → elements_of (forest (xs ++ ys)) ≡ elements_of (forest xs) + elements_of (forest ys)
  unfolding elements_of forest
  elements_append [] ys = omega arith
  elements_append (x ∷ xs) ys = omega (arith, elements_append xs ys)

-- ── Where a path leads ──────────────────────────────────────────────────────────────────────────────────────

module _ {A : Type 0} where
  pub resolve_at : (a : A) (cs : Trees A) (i : ℕ) (p : Path) (c : Tree A) → get_elem? (list cs) i ≡ some c → resolve (i ∷ p) (node a cs) ≡ resolve p c
  unfolding resolve bind
  resolve_at a cs i p c g = rw g

  -- the same where the children are told as a list
  pub resolve_forest : (a : A) (xs : List (Tree A)) (i : ℕ) (p : Path) (c : Tree A) → get_elem? xs i ≡ some c → resolve (i ∷ p) (node a (forest xs)) ≡ resolve p c
  resolve_forest a xs i p c g = resolve_at a (forest xs) i p c (rw (list_forest xs) g)

  pub resolve_child : (a : A) (cs : Trees A) (i : ℕ) (p : Path) (t : Tree A) → resolve (i ∷ p) (node a cs) ≡ some t → (c : Tree A) × (get_elem? (list cs) i ≡ some c) × (resolve p c ≡ some t)
  unfolding resolve
  resolve_child a cs i p t e = bind_some (get_elem? (list cs) i) (λ c. resolve p c) e

  pub resolve_append : (p q : Path) (t : Tree A) → resolve (p ++ q) t ≡ bind (resolve p t) (λ u. resolve q u)
  unfolding resolve bind
  resolve_append [] q t = refl
  resolve_append (i ∷ p) q (token a own) = refl
  resolve_append (i ∷ p) q (node a cs) = go (get_elem? (list cs) i) (λ c. resolve_append p q c)
    where
      go : (o : Option (Tree A)) → ((c : Tree A) → resolve (p ++ q) c ≡ bind (resolve p c) (λ u. resolve q u)) → bind o (λ c. resolve (p ++ q) c) ≡ bind (bind o (λ c. resolve p c)) (λ u. resolve q u)
      go none r = refl
      go (some c) r = r c

-- what is left of a path at or below an element: just the rest
pub strip_append : (top r : Path) → strip top (top ++ r) ≡ some r
unfolding strip
strip_append [] r = refl
strip_append (i ∷ top) r = rw (eq-eqb i i refl, strip_append top r)

pub strip_some : (top p r : Path) → strip top p ≡ some r → p ≡ top ++ r
unfolding strip
strip_some [] p r e = some_inj e
strip_some (i ∷ top) [] r e = none_some e
strip_some (i ∷ top) (j ∷ p) r e = go (eqb i j) refl e (strip_some top p r)
  where
    go : (b : Bool) → eqb i j ≡ b → cond b (strip top p) none ≡ some r → (strip top p ≡ some r → p ≡ top ++ r) → j ∷ p ≡ i ∷ (top ++ r)
    go true q z k = rw (eqb-true i j q, k z)
    go false q z k = none_some z

-- the path of a child of the element at p
pub front_child : (p : Path) (i : ℕ) → front (p ++ (i ∷ [])) ≡ p
unfolding front
front_child [] i = refl
front_child (j ∷ []) i = refl
front_child (j ∷ k ∷ p) i = ap {B = Path} (λ r. j ∷ r) (front_child (k ∷ p) i)

pub last_child : (p : Path) (i : ℕ) → last (p ++ (i ∷ [])) ≡ i
unfolding last
last_child [] i = refl
last_child (j ∷ []) i = refl
last_child (j ∷ k ∷ p) i = last_child (k ∷ p) i

-- two paths with their last child numbers
pub front_same : (p q : Path) (i j : ℕ) → p ++ (i ∷ []) ≡ q ++ (j ∷ []) → p ≡ q
front_same p q i j e = sym (front_child p i) ∙ (ap front e ∙ front_child q j)

pub last_same : (p q : Path) (i j : ℕ) → p ++ (i ∷ []) ≡ q ++ (j ∷ []) → i ≡ j
last_same p q i j e = sym (last_child p i) ∙ (ap last e ∙ last_child q j)

pub front_last : (i : ℕ) (p : Path) → front (i ∷ p) ++ (last (i ∷ p) ∷ []) ≡ i ∷ p
unfolding front last
front_last i [] = refl
front_last i (j ∷ p) = ap {B = Path} (λ r. i ∷ r) (front_last j p)

-- ── A run of a node's children ──────────────────────────────────────────────────────────────────────────────

module _ {A : Type 0} where
  pub run_here : (k : A) (cs : Trees A) (a b : ℕ) → HasRun (node k cs) [] a b → b ≤ length (list cs)
  unfolding resolve
  run_here k cs a b h =
      let e : node k cs ≡ node h.kind h.children = some_inj h.found in
      let e' : cs ≡ h.children = cc in
      rw e' h.within

  pub run_child : (k : A) (cs : Trees A) (j : ℕ) (q : Path) (a b : ℕ) → HasRun (node k cs) (j ∷ q) a b → (c : Tree A) × (get_elem? (list cs) j ≡ some c) × HasRun c q a b
  run_child k cs j q a b h =
      let r = resolve_child k cs j q (node h.kind h.children) h.found in
      (r.0, r.1, record { kind = h.kind; children = h.children; found = r.2; ordered = h.ordered; within = h.within })

  -- a token has none
  pub run_token : (k : A) (own : List ℕ) (q : Path) (a b : ℕ) → HasRun (token k own) q a b → ⊥
  unfolding resolve
  run_token k own [] a b h = let z : ◌≡◌ {A = ℕ} 0 1 = cc h.found in omega arith
  run_token k own (j ∷ q) a b h = none_some h.found

-- ── The path rule, case by case ─────────────────────────────────────────────────────────────────────────────

module _ (a b n i : ℕ) where
  pub shift_before : i < a → shift a b n i ≡ some i
  unfolding shift
  shift_before h = zone_before i a b _ _ _ h

  pub shift_inside : a ≤ i → i < b → shift a b n i ≡ none
  unfolding shift
  shift_inside h k = zone_inside i a b _ _ _ h k

  pub shift_after : a ≤ i → b ≤ i → shift a b n i ≡ some (i + n - (b - a))
  unfolding shift
  shift_after h k = zone_after i a b _ _ _ h k

-- the same from d on
pub shift_add : (d a b n i : ℕ) → a ≤ b → map (λ j. d + j) (shift a b n i) ≡ shift (d + a) (d + b) n (d + i)
shift_add d a b n i h = elim (zone? i a b) [
  | before k ↦ rw (shift_before a b n i k, shift_before (d + a) (d + b) n (d + i) (omega arith))
  | inside k l ↦ rw (shift_inside a b n i k l, shift_inside (d + a) (d + b) n (d + i) (omega arith) (omega arith))
  | after k l ↦ rw (shift_after a b n i k l, shift_after (d + a) (d + b) n (d + i) (omega arith) (omega arith)) (ap {B = Option ℕ} some (omega arith))
]

module _ (a b n : ℕ) where
  pub adjust_root : (q : Path) → adjust q a b n [] ≡ some []
  unfolding adjust
  adjust_root [] = refl
  adjust_root (j ∷ q) = refl

  pub adjust_shift : (i : ℕ) (e : Path) → adjust [] a b n (i ∷ e) ≡ map (λ j. j ∷ e) (shift a b n i)
  unfolding adjust shift
  adjust_shift i e = elim (zone? i a b) [
    | before h ↦ rw (zone_before i a b (some i) none (some (i + n - (b - a))) h) (zone_before i a b _ _ _ h)
    | inside h k ↦ rw (zone_inside i a b (some i) none (some (i + n - (b - a))) h k) (zone_inside i a b _ _ _ h k)
    | after h k ↦ rw (zone_after i a b (some i) none (some (i + n - (b - a))) h k) (zone_after i a b _ _ _ h k)
  ]

  pub adjust_in : (i j : ℕ) (q e : Path) → i ≡ j → adjust (j ∷ q) a b n (i ∷ e) ≡ map (λ r. i ∷ r) (adjust q a b n e)
  unfolding adjust
  adjust_in i j q e h = rw (eq-eqb i j h)

  pub adjust_out : (i j : ℕ) (q e : Path) → i ≢ j → adjust (j ∷ q) a b n (i ∷ e) ≡ some (i ∷ e)
  unfolding adjust
  adjust_out i j q e h = rw (ne_eqb i j h)

  -- a path keeps its length
  pub adjust_length : (q e e' : Path) → adjust q a b n e ≡ some e' → length e' ≡ length e
  adjust_length q [] e' s = ap length (some_inj (sym s ∙ adjust_root q))
  adjust_length [] (i ∷ e) e' s =
      let r = map_some (λ j. j ∷ e) (shift a b n i) (sym (adjust_shift i e) ∙ s) in
      ap length (sym r.2)
  adjust_length (j ∷ q) (i ∷ e) e' s = go (eqb i j) refl (adjust_length q e)
    where
      go : (x : Bool) → eqb i j ≡ x → ((r : Path) → adjust q a b n e ≡ some r → length r ≡ length e) → length e' ≡ suc (length e)
      go true z ih =
          let r = map_some (λ r. i ∷ r) (adjust q a b n e) (sym (adjust_in i j q e (eqb-true i j z)) ∙ s) in
          ap length (sym r.2) ∙ ap suc (ih r.0 r.1)
      go false z ih = ap length (some_inj (sym s ∙ adjust_out i j q e (eqb-false i j z)))

-- ── One splice done ─────────────────────────────────────────────────────────────────────────────────────────

module _ {A : Type 0} (a b : ℕ) (new : List (Tree A)) where
  pub label_splice : (q : Path) (t : Tree A) → label (splice q a b new t) ≡ label t
  unfolding splice label
  label_splice [] (token w own) = refl
  label_splice [] (node w cs) = refl
  label_splice (j ∷ q) (token w own) = refl
  label_splice (j ∷ q) (node w cs) = refl

  -- a subtree after the splice whose parent is told from it: the same, if the parent is neither its root nor below that
  unfoldable pub splice_in : Option Path → Tree A → Tree A
  splice_in none v = v
  splice_in (some r) v = splice r a b new v

  pub label_splice_in : (o : Option Path) (v : Tree A) → label (splice_in o v) ≡ label v
  unfolding splice_in
  label_splice_in none v = refl
  label_splice_in (some r) v = label_splice r v

  splice_top : (k : A) (cs : Trees A) (i : ℕ) (e : Path) (c v : Tree A) (i' : ℕ) → a ≤ b → b ≤ length (list cs) → get_elem? (list cs) i ≡ some c → resolve e c ≡ some v → shift a b (length new) i ≡ some i'
      → resolve (i' ∷ e) (splice [] a b new (node k cs)) ≡ some v
  unfolding splice
  splice_top k cs i e c v i' h w g f s = resolve_forest k (take a (list cs) ++ (new ++ drop b (list cs))) i' e c (at (zone? i a b)) ∙ f
    where
      at : Zone i a b → get_elem? (take a (list cs) ++ (new ++ drop b (list cs))) i' ≡ some c
      at (before x) = rw (some_inj (sym s ∙ shift_before a b (length new) i x)) (get_cut_before (list cs) new a b h w i x ∙ g)
      at (inside x y) = none_some (sym (shift_inside a b (length new) i x y) ∙ s)
      at (after x y) = rw (some_inj (sym s ∙ shift_after a b (length new) i x y)) (get_cut_after (list cs) new a b h w i y ∙ g)

  splice_deep : (k : A) (cs : Trees A) (j i : ℕ) (q e : Path) (c : Tree A) → get_elem? (modify j (λ x. splice q a b new x) (list cs)) i ≡ some c → resolve (i ∷ e) (splice (j ∷ q) a b new (node k cs)) ≡ resolve e c
  unfolding splice
  splice_deep k cs j i q e c g = resolve_forest k (modify j (λ x. splice q a b new x) (list cs)) i e c g

  -- An adjusted path leads to the element that it led to before; what is below that is as it was, unless the parent is that element or below it.
  pub resolve_splice : (q : Path) (t : Tree A) (e : Path) (v : Tree A) (e' : Path) → HasRun t q a b → resolve e t ≡ some v → adjust q a b (length new) e ≡ some e'
      → resolve e' (splice q a b new t) ≡ some (splice_in (strip e q) v)
  unfolding resolve strip splice_in
  resolve_splice q t [] v e' h f s = rw (some_inj (sym s ∙ adjust_root a b (length new) q), some_inj f)
  resolve_splice [] (token k own) (i ∷ e) v e' h f s = none_some f
  resolve_splice [] (node k cs) (i ∷ e) v e' h f s =
      let c = resolve_child k cs i e v f in
      let r = map_some (λ j. j ∷ e) (shift a b (length new) i) (sym (adjust_shift a b (length new) i e) ∙ s) in
      rw (← r.2) (splice_top k cs i e c.0 v r.0 h.ordered (run_here k cs a b h) c.1 c.2 r.1)
  resolve_splice (j ∷ q) (token k own) (i ∷ e) v e' h f s = none_some f
  resolve_splice (j ∷ q) (node k cs) (i ∷ e) v e' h f s =
      let c = resolve_child k cs i e v f in
      let d = run_child k cs j q a b h in
      go (eqb i j) refl c.0 c.1 c.2 d.0 d.1 (λ y r z. resolve_splice q d.0 e v r d.2 y z)
    where
      go : (x : Bool) → eqb i j ≡ x → (c : Tree A) → get_elem? (list cs) i ≡ some c → resolve e c ≡ some v → (d : Tree A) → get_elem? (list cs) j ≡ some d
          → (resolve e d ≡ some v → (r : Path) → adjust q a b (length new) e ≡ some r → resolve r (splice q a b new d) ≡ some (splice_in (strip e q) v))
          → resolve e' (splice (j ∷ q) a b new (node k cs)) ≡ some (splice_in (cond x (strip e q) none) v)
      go true x c gc fc d gd ih =
          let ij : i ≡ j = eqb-true i j x in
          let cd : c ≡ d = some_inj (sym gc ∙ (ap (get_elem? (list cs)) ij ∙ gd)) in
          let r = map_some (λ r. i ∷ r) (adjust q a b (length new) e) (sym (adjust_in a b (length new) i j q e ij) ∙ s) in
          let z : e' ≡ j ∷ r.0 = sym r.2 ∙ ap {B = Path} (λ k. k ∷ r.0) ij in
          rw z (splice_deep k cs j j q r.0 (splice q a b new d) (get_modify (λ x. splice q a b new x) (list cs) j d gd) ∙ ih (rw cd at fc) r.0 r.1)
      go false x c gc fc d gd ih =
          let ij : i ≢ j = eqb-false i j x in
          rw (some_inj (sym s ∙ adjust_out a b (length new) i j q e ij)) (splice_deep k cs j i q e c (get_modify_other (λ x. splice q a b new x) (list cs) j i ij ∙ gc) ∙ fc)

  -- ── Each element of the new tree ──

  -- what is inserted stands at its place
  pub resolve_new : (q : Path) (t : Tree A) (i : ℕ) (c : Tree A) (r : Path) → HasRun t q a b → get_elem? new i ≡ some c → resolve (q ++ ((a + i) ∷ r)) (splice q a b new t) ≡ resolve r c
  unfolding splice
  resolve_new [] (token k own) i c r h g = absurd (run_token k own [] a b h)
  resolve_new (j ∷ q) (token k own) i c r h g = absurd (run_token k own (j ∷ q) a b h)
  resolve_new [] (node k cs) i c r h g = resolve_forest k (take a (list cs) ++ (new ++ drop b (list cs))) (a + i) r c (get_cut_new (list cs) new a b h.ordered (run_here k cs a b h) i (get_lt new i g) ∙ g)
  resolve_new (j ∷ q) (node k cs) i c r h g =
      let (d, y, z) = run_child k cs j q a b h in
      splice_deep k cs j j q (q ++ ((a + i) ∷ r)) (splice q a b new d) (get_modify (λ x. splice q a b new x) (list cs) j d y) ∙ resolve_new q d i c r z g

  -- an old one that was kept, or one of an inserted subtree
  pub data Origin (q : Path) (t : Tree A) (e' : Path) (v : Tree A) : Type 0 where
    kept : (e : Path) (u : Tree A) → resolve e t ≡ some u → adjust q a b (length new) e ≡ some e' → v ≡ splice_in (strip e q) u → Origin q t e' v
    came : (i : ℕ) (c : Tree A) (r : Path) → get_elem? new i ≡ some c → e' ≡ q ++ ((a + i) ∷ r) → resolve r c ≡ some v → Origin q t e' v

  origin_top : (k : A) (cs : Trees A) (i : ℕ) (e : Path) (c v : Tree A) → a ≤ b → b ≤ length (list cs) → get_elem? (take a (list cs) ++ (new ++ drop b (list cs))) i ≡ some c → resolve e c ≡ some v → Origin [] (node k cs) (i ∷ e) v
  unfolding strip splice_in
  origin_top k cs i e c v h w g f = elim (zone? i a (a + length new)) [
    | before x ↦ kept (i ∷ e) v (resolve_at k cs i e c (sym (get_cut_before (list cs) new a b h w i x) ∙ g) ∙ f) (adjust_shift a b (length new) i e ∙ rw (shift_before a b (length new) i x)) refl
    | inside x y ↦
        let z : i ≡ a + (i - a) = omega arith in
        came (i - a) c e (sym (get_cut_new (list cs) new a b h w (i - a) (omega arith)) ∙ (rw z at g)) (ap {B = Path} (λ n. n ∷ e) z) f
    | after x y ↦
        let o : ℕ = i + (b - a) - length new in
        let z : o + length new - (b - a) ≡ i = omega arith in
        kept (o ∷ e) v (resolve_at k cs o e c (sym (get_cut_after (list cs) new a b h w o (omega arith)) ∙ rw z g) ∙ f) (adjust_shift a b (length new) o e ∙ rw (shift_after a b (length new) o (omega arith) (omega arith), z)) refl
  ]

  pub splice_origin : (q : Path) (t : Tree A) (e : Path) (v : Tree A) → HasRun t q a b → resolve e (splice q a b new t) ≡ some v → Origin q t e v
  unfolding resolve splice strip splice_in
  splice_origin q t [] v h f = kept [] t refl (adjust_root a b (length new) q) (sym (some_inj f))
  splice_origin [] (token k own) (i ∷ e) v h f = none_some f
  splice_origin [] (node k cs) (i ∷ e) v h f =
      let (c, g, z) = resolve_child k (forest (take a (list cs) ++ (new ++ drop b (list cs)))) i e v f in
      origin_top k cs i e c v h.ordered (run_here k cs a b h) (rw list_forest at g) z
  splice_origin (j ∷ q) (token k own) (i ∷ e) v h f = none_some f
  splice_origin (j ∷ q) (node k cs) (i ∷ e) v h f =
      let (d, g, r) = run_child k cs j q a b h in
      let (c, g', z) = resolve_child k (forest (modify j (λ x. splice q a b new x) (list cs))) i e v f in
      go (eqb i j) refl d g c (rw list_forest at g') z (λ y. splice_origin q d e v r y)
    where
      deeper : i ≡ j → (d : Tree A) → get_elem? (list cs) j ≡ some d → Origin q d e v → Origin (j ∷ q) (node k cs) (i ∷ e) v
      deeper x d g (kept p u y m z) = kept (j ∷ p) u (resolve_at k cs j p d g ∙ y) (adjust_in a b (length new) j j q p refl ∙ rw (m, x)) (rw (eq-eqb j j refl) z)
      deeper x d g (came n c r y m z) = came n c r y (rw (m, x)) z

      go : (x : Bool) → eqb i j ≡ x → (d : Tree A) → get_elem? (list cs) j ≡ some d → (c : Tree A) → get_elem? (modify j (λ x. splice q a b new x) (list cs)) i ≡ some c → resolve e c ≡ some v
          → (resolve e (splice q a b new d) ≡ some v → Origin q d e v) → Origin (j ∷ q) (node k cs) (i ∷ e) v
      go true x d g c g' z r =
          let ij : i ≡ j = eqb-true i j x in
          let cd : c ≡ splice q a b new d = some_inj (sym g' ∙ (ap (get_elem? (modify j (λ x. splice q a b new x) (list cs))) ij ∙ get_modify (λ x. splice q a b new x) (list cs) j d g)) in
          deeper ij d g (r (rw cd at z))
      go false x d g c g' z r =
          let ij : i ≢ j = eqb-false i j x in
          kept (i ∷ e) v (resolve_at k cs i e c (sym (get_modify_other (λ x. splice q a b new x) (list cs) j i ij) ∙ g') ∙ z) (adjust_out a b (length new) i j q e ij) (rw x)

  -- ── How many elements ──

  elements_top : (cs : Trees A) → a ≤ b → b ≤ length (list cs)
      → elements_of (forest (take a (list cs) ++ (new ++ drop b (list cs)))) + elements_of (forest (take (b - a) (drop a (list cs)))) ≡ elements_of cs + elements_of (forest new)
  elements_top cs h w =
      let l : List (Tree A) = list cs in
      let e : a + (b - a) ≡ b = omega arith in
      let was : elements_of cs ≡ elements_of (forest (take a l)) + (elements_of (forest (take (b - a) (drop a l))) + elements_of (forest (drop b l))) =
      ap elements_of (sym (forest_list cs) ∙ ap forest (rw e at (parts a (b - a) l))) ∙ simp elements_append in
      let is : elements_of (forest (take a l ++ (new ++ drop b l))) ≡ elements_of (forest (take a l)) + (elements_of (forest new) + elements_of (forest (drop b l))) = simp elements_append in
      omega arith

  elements_modify : (g : Tree A → Tree A) (l : List (Tree A)) (j : ℕ) (c : Tree A) → get_elem? l j ≡ some c → elements_of (forest (modify j g l)) + elements c ≡ elements_of (forest l) + elements (g c)
  unfolding modify forest elements
  elements_modify g [] j c e = none_some e
  elements_modify g (x ∷ l) zero c e = rw (some_inj e) (omega arith)
  elements_modify g (x ∷ l) (suc j) c e = omega (arith, elements_modify g l j c e)

  -- A splice adds the elements that come and takes those that go.
  pub elements_splice : (q : Path) (t : Tree A) (k : A) (cs : Trees A) → resolve q t ≡ some (node k cs) → a ≤ b → b ≤ length (list cs)
      → elements (splice q a b new t) + elements_of (forest (take (b - a) (drop a (list cs)))) ≡ elements t + elements_of (forest new)
  unfolding resolve splice elements
  elements_splice [] t k cs f h w = rw (some_inj f) (omega (arith, elements_top cs h w))
  elements_splice (j ∷ q) (token x own) k cs f h w = none_some f
  elements_splice (j ∷ q) (node x ds) k cs f h w =
      let (c, g, z) = resolve_child x ds j q (node k cs) f in
      let e : elements_of (forest (list ds)) ≡ elements_of ds = ap elements_of (forest_list ds) in
      omega (arith, elements_splice q c k cs z h w, elements_modify (λ y. splice q a b new y) (list ds) j c g)
