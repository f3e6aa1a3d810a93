-- Paths by the element table's words: an element's path is its parent's and its child number, and no two elements have one path.
-- Assumes nothing.
use Rattle.std.specs.Prelude.{Bool, true, false, cond, ◌≡◌, refl, eqb}
use mathlib.Core.List.{List, [], ◌∷◌, ◌++◌, append-nil}
use Rattle.std.proofs.Math.Option.{none, some, map}
use Rattle.std.proofs.Math.Path.{sym, ap}
use Rattle.std.proofs.Common.{◌∙◌, arith, eqb-true}
use Prim.Native.Nat.{ℕ, zero, suc, ◌+◌, ◌*◌, ◌<◌}
use Rattle.std.proofs.Math.ListN.{length, get_or}
use Rattle.orders.specs.Tree.{Path, strip}
use Rattle.orders.proofs.TreeLaws.{front_same, last_same, strip_append}
use Rattle.definition.specs.Elements.{row, place_below}
use Rattle.read_element_table.specs.View.{field, path_to, row_at, view}
use Rattle.read_element_table.specs.Wellformed.{Lines}
use Rattle.read_element_table.specs.Told.{row_view, parent_below, deep, length_path}

-- ── The path of an element ──────────────────────────────────────────────────────────────────────────────────

module _ (n : ℕ) (w s : List ℕ) (L : Lines n w) (e : ℕ) (h : e < n) where
  path_root : get_or w (8 * e + 1) 0 ≡ 0 → (row (view n w s) e).path ≡ get_or w (8 * e + 2) 0 ∷ []
  unfolding row_at field path_to
  path_root z = rw (row_view n w s e h) (go (get_or w (8 * e + 3) 0) (L.root e h z).0)
    where
      go : (d : ℕ) → d ≡ 1 → path_to w s d e ≡ get_or w (8 * e + 2) 0 ∷ []
      go d q = rw (q, z, path_to)

  path_child : (p : ℕ) → get_or w (8 * e + 1) 0 ≡ suc p → (row (view n w s) e).path ≡ (row (view n w s) p).path ++ (get_or w (8 * e + 2) 0 ∷ [])
  unfolding row_at field path_to
  path_child p z = rw (row_view n w s e h, row_view n w s p (parent_below n w L e p h z)) (go (get_or w (8 * e + 3) 0) (L.below e p h z).0)
    where
      go : (d : ℕ) → d ≡ suc (get_or w (8 * p + 3) 0) → path_to w s d e ≡ path_to w s (get_or w (8 * p + 3) 0) p ++ (get_or w (8 * e + 2) 0 ∷ [])
      go d q = rw (q, path_to, z)

  length_told : length (row (view n w s) e).path ≡ get_or w (8 * e + 3) 0
  unfolding row_at field
  length_told = rw (row_view n w s e h) (length_path n w s L (get_or w (8 * e + 3) 0) e h refl)

-- ── No two elements have one path ───────────────────────────────────────────────────────────────────────────

module _ (n : ℕ) (w s : List ℕ) (L : Lines n w) where
  depth_same : (a b : ℕ) → a < n → b < n → (row (view n w s) a).path ≡ (row (view n w s) b).path → get_or w (8 * a + 3) 0 ≡ get_or w (8 * b + 3) 0
  depth_same a b ha hb q = sym (length_told n w s L a ha) ∙ (ap length q ∙ length_told n w s L b hb)

  one_path : (d a b : ℕ) → a < n → b < n → get_or w (8 * a + 3) 0 ≡ d → (row (view n w s) a).path ≡ (row (view n w s) b).path → a ≡ b
  one_path zero a b ha hb g q = absurd (omega (arith, deep n w L a ha))
  one_path (suc d) a b ha hb g q = go (get_or w (8 * a + 1) 0) (get_or w (8 * b + 1) 0) refl refl (one_path d)
    where
      go : (j k : ℕ) → get_or w (8 * a + 1) 0 ≡ j → get_or w (8 * b + 1) 0 ≡ k
          → ((a b : ℕ) → a < n → b < n → get_or w (8 * a + 3) 0 ≡ d → (row (view n w s) a).path ≡ (row (view n w s) b).path → a ≡ b) → a ≡ b
      go zero zero x y ih =
          let e = sym (path_root n w s L a ha x) ∙ (q ∙ path_root n w s L b hb y) in
          L.apart a b ha hb (x ∙ sym y) (last_same [] [] _ _ e)
      go zero (suc k) x y ih = absurd (omega (arith, depth_same a b ha hb q, (L.root a ha x).0, (L.below b k hb y).0, deep n w L k (parent_below n w L b k hb y)))
      go (suc j) zero x y ih = absurd (omega (arith, depth_same a b ha hb q, (L.root b hb y).0, (L.below a j ha x).0, deep n w L j (parent_below n w L a j ha x)))
      go (suc j) (suc k) x y ih =
          let hj = parent_below n w L a j ha x in
          let hk = parent_below n w L b k hb y in
          let P : ℕ → Path = λ e. (row (view n w s) e).path in
          let e = sym (path_child n w s L a ha j x) ∙ (q ∙ path_child n w s L b hb k y) in
          let p : j ≡ k = ih j k hj hk (omega (arith, (L.below a j ha x).0)) (front_same (P j) (P k) _ _ e) in
          L.apart a b ha hb (x ∙ (ap suc p ∙ sym y)) (last_same (P j) (P k) _ _ e)

  pub path_unique : (a b : ℕ) → a < n → b < n → (row (view n w s) a).path ≡ (row (view n w s) b).path → a ≡ b
  path_unique a b ha hb q = one_path (get_or w (8 * a + 3) 0) a b ha hb refl q

-- ── What is left of a path ──────────────────────────────────────────────────────────────────────────────────

only_empty : (top : Path) → (top ≡ [] → ⊥) → strip top [] ≡ none
unfolding strip
only_empty [] h = absurd (h refl)
only_empty (i ∷ top) h = refl

-- of the path of a child that is not at `top`: what is left of its parent's, and its number
strip_child : (top p : Path) (c : ℕ) → (top ≡ p ++ (c ∷ []) → ⊥) → strip top (p ++ (c ∷ [])) ≡ map (λ q. q ++ (c ∷ [])) (strip top p)
unfolding strip
strip_child [] p c h = refl
strip_child (i ∷ top) [] c h = go (eqb i c) refl
  where
    go : (b : Bool) → eqb i c ≡ b → cond b (strip top []) none ≡ none
    go true e = only_empty top (λ z. h (rw (z, eqb-true i c e)))
    go false e = refl
strip_child (i ∷ top) (j ∷ p) c h = go (eqb i j) refl (strip_child top p c)
  where
    go : (b : Bool) → eqb i j ≡ b
        → ((top ≡ p ++ (c ∷ []) → ⊥) → strip top (p ++ (c ∷ [])) ≡ map (λ q. q ++ (c ∷ [])) (strip top p))
        → cond b (strip top (p ++ (c ∷ []))) none ≡ map (λ q. q ++ (c ∷ [])) (cond b (strip top p) none)
    go true e ih = ih (λ z. h (rw (z, eqb-true i j e)))
    go false e ih = refl

-- ── Going up from an element to the one it may stand below ──────────────────────────────────────────────────

module _ (n : ℕ) (w s : List ℕ) (L : Lines n w) (x e : ℕ) (hx : x < n) (he : e < n) where
  pub place_here : e ≡ x → place_below (view n w s) x e ≡ some []
  unfolding place_below
  place_here q = rw q (ap (strip P) (sym (append-nil P)) ∙ strip_append P [])
    where
      P : Path
      P = (row (view n w s) x).path

  pub place_root : (e ≡ x → ⊥) → get_or w (8 * e + 1) 0 ≡ 0 → place_below (view n w s) x e ≡ none
  unfolding place_below
  place_root z q =
      let r = path_root n w s L e he q in
      rw (r, strip_child (row (view n w s) x).path [] (get_or w (8 * e + 2) 0) (λ y. z (sym (path_unique n w s L x e hx he (y ∙ sym r)))), only_empty (row (view n w s) x).path (λ y. omega (arith, ap length y, length_told n w s L x hx, deep n w L x hx)))

  pub place_up : (p : ℕ) → (e ≡ x → ⊥) → get_or w (8 * e + 1) 0 ≡ suc p → place_below (view n w s) x e ≡ map (λ q. q ++ (get_or w (8 * e + 2) 0 ∷ [])) (place_below (view n w s) x p)
  unfolding place_below
  place_up p z q =
      let r = path_child n w s L e he p q in
      rw r (strip_child (row (view n w s) x).path (row (view n w s) p).path (get_or w (8 * e + 2) 0) (λ y. z (sym (path_unique n w s L x e hx he (y ∙ sym r)))))
