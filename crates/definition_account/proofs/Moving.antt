-- Paths that move, seen from where they come to: two never meet, what is below stays below, none comes to where something new is put.
-- Assumes nothing.
use Rattle.std.specs.Prelude.{◌≡◌, refl, Bool, true, false, ℕ, zero, suc, ◌+◌, ◌≤◌, ◌<◌, eqb, length, take, drop}
use Rattle.std.proofs.Common.{sym, ap, ◌∙◌, inl, inr, arith, take-append-drop, length-append, eqb-true}
use mathlib.Core.List.{[], ◌∷◌, ◌++◌, append_assoc, append-nil, head-eq_of_cons-eq, tail-eq_of_cons-eq}
use Rattle.std.proofs.Math.Option.{Option, none, some, map}
use Rattle.std.proofs.lemmas.Bool.{eqb-false}
use Rattle.orders.specs.ListLaws.{some_inj, none_some, map_some, lt_or_le, before, inside, after, zone?}
use Rattle.orders.specs.Tree.{Path, adjust, shift, front, last}
use Rattle.orders.proofs.TreeLaws.{front_same, last_same, front_last, shift_before, shift_inside, shift_after, adjust_root, adjust_shift, adjust_in, adjust_out}
use Rattle.definition_laws.specs.Moves.{Keeps}

-- the same front of two paths, if the fronts are equally long
pub parts_same : (p q r s : Path) → length p ≡ length q → p ++ r ≡ q ++ s → (p ≡ q) × (r ≡ s)
parts_same [] [] r s l e = (refl, e)
parts_same [] (j ∷ q) r s l e = absurd (omega arith)
parts_same (i ∷ p) [] r s l e = absurd (omega arith)
parts_same (i ∷ p) (j ∷ q) r s l e =
    let (a, b) = parts_same p q r s (omega arith) (tail-eq_of_cons-eq e) in
    let h : i ≡ j = head-eq_of_cons-eq e in
    (rw (h, a), b)

-- ── Any way of moving paths ─────────────────────────────────────────────────────────────────────────────────

module _ (move : Path → Option Path) (k : Keeps move) where
  -- what is above a path that survives survives
  pub keeps_above : (c r g : Path) → move (c ++ r) ≡ some g → (c' : Path) × (r' : Path) × (move c ≡ some c') × (g ≡ c' ++ r') × (length r' ≡ length r)
  keeps_above c [] g e = (g, [], ap move (sym (append-nil c)) ∙ e, sym (append-nil g), refl)
  keeps_above c (i ∷ r) g e =
      let (d, s, a, b, l) = keeps_above (c ++ (i ∷ [])) r g (ap move (append_assoc c (i ∷ []) r) ∙ e) in
      let (c', n, x, y) = k.child c d i a in
      (c', n ∷ s, x, b ∙ (ap (λ z. z ++ s) y ∙ append_assoc c' (n ∷ []) s), ap suc l)

  -- two paths never come to one place
  keeps_inj_at : (n : ℕ) (p q r : Path) → length p ≡ n → move p ≡ some r → move q ≡ some r → p ≡ q
  keeps_inj_at zero [] [] r l a b = refl
  keeps_inj_at zero [] (j ∷ q) r l a b = absurd (omega (arith, k.size [] r a, k.size (j ∷ q) r b))
  keeps_inj_at zero (i ∷ p) q r l a b = absurd (omega arith)
  keeps_inj_at (suc n) [] q r l a b = absurd (omega arith)
  keeps_inj_at (suc n) (i ∷ p) [] r l a b = absurd (omega (arith, k.size (i ∷ p) r a, k.size [] r b))
  keeps_inj_at (suc n) (i ∷ p) (j ∷ q) r l a b =
      let (x, u, c, d) = k.child (front (i ∷ p)) r (last (i ∷ p)) (ap move (front_last i p) ∙ a) in
      let (y, v, c', d') = k.child (front (j ∷ q)) r (last (j ∷ q)) (ap move (front_last j q) ∙ b) in
      let xy : x ≡ y = front_same x y u v (sym d ∙ d') in
      let uv : u ≡ v = last_same x y u v (sym d ∙ d') in
      let long : length (front (i ∷ p)) ≡ n = omega (arith, l, ap length (front_last i p), length-append (front (i ∷ p)) (last (i ∷ p) ∷ [])) in
      let f : front (i ∷ p) ≡ front (j ∷ q) = keeps_inj_at n (front (i ∷ p)) (front (j ∷ q)) x long c (c' ∙ ap {B = Option Path} some (sym xy)) in
      let g : last (i ∷ p) ≡ last (j ∷ q) = same (front (i ∷ p)) x (last (i ∷ p)) (last (j ∷ q)) u v uv
      (ap move (front_last i p) ∙ (a ∙ ap {B = Option Path} some d)) (ap move (ap (λ z. z ++ (last (j ∷ q) ∷ [])) f ∙ front_last j q) ∙ (b ∙ ap {B = Option Path} some (d' ∙ ap (λ z. z ++ (v ∷ [])) (sym xy)))) in
      sym (front_last i p) ∙ (ap (λ z. z ++ (last (i ∷ p) ∷ [])) f ∙ (ap (λ z. front (j ∷ q) ++ (z ∷ [])) g ∙ front_last j q))
    where
      same : (f x : Path) (m m' u v : ℕ) → u ≡ v → move (f ++ (m ∷ [])) ≡ some (x ++ (u ∷ [])) → move (f ++ (m' ∷ [])) ≡ some (x ++ (v ∷ [])) → m ≡ m'
      same f x m m' u v e a b = elim (lt_or_le m m') [
        | inl h ↦ absurd (omega (arith, k.order f x m m' u v h a b))
        | inr h ↦ elim (lt_or_le m' m) [ inl h' ↦ absurd (omega (arith, k.order f x m' m v u h' b a)) | inr h' ↦ omega arith ]
      ]

  pub keeps_inj : (p q r : Path) → move p ≡ some r → move q ≡ some r → p ≡ q
  keeps_inj p q r a b = keeps_inj_at (length p) p q r refl a b

  -- what comes to stand below a path that moved stood below it
  pub keeps_below : (e c c' r : Path) → move e ≡ some (c' ++ r) → move c ≡ some c' → (s : Path) × (e ≡ c ++ s) × (length s ≡ length r)
  keeps_below e c c' r a b =
      let m : ℕ = length c in
      let z : take m e ++ drop m e ≡ e = take-append-drop m e in
      let (d, s, x, y, l) = keeps_above (take m e) (drop m e) (c' ++ r) (ap move z ∙ a) in
      let le : length e ≡ length c + length r = omega (arith, k.size e (c' ++ r) a, k.size c c' b, length-append c' r) in
      let lt : length (take m e) ≡ length c = long m e (omega arith) in
      let (dc, sr) = parts_same d c' s r (omega (arith, k.size (take m e) d x, k.size c c' b)) (sym y) in
      let t : take m e ≡ c = keeps_inj (take m e) c c' (x ∙ ap {B = Option Path} some dc) b in
      (drop m e, sym z ∙ ap (λ u. u ++ drop m e) t, omega (arith, ap length z, length-append (take m e) (drop m e)))
    where
      long : (m : ℕ) (e : Path) → m ≤ length e → length (take m e) ≡ m
      long zero e h = refl
      long (suc m) [] h = absurd (omega arith)
      long (suc m) (i ∷ e) h = ap suc (long m e (omega arith))

-- ── One splice ──────────────────────────────────────────────────────────────────────────────────────────────

module _ (a b n : ℕ) where
  -- the parent stays
  pub adjust_self : (q : Path) → adjust q a b n q ≡ some q
  adjust_self [] = adjust_root a b n []
  adjust_self (j ∷ q) = rw (adjust_in a b n j j q q refl, adjust_self q)

  -- no path comes to where something new is put
  pub adjust_new : (q e r : Path) (i : ℕ) → i < n → adjust q a b n e ≡ some (q ++ ((a + i) ∷ r)) → ⊥
  adjust_new q [] r i h s = let z : [] ≡ q ++ ((a + i) ∷ r) = some_inj (sym (adjust_root a b n q) ∙ s) in omega (arith, ap length z, length-append q ((a + i) ∷ r))
  adjust_new [] (m ∷ e) r i h s =
      let (j, x, y) = map_some (λ j. j ∷ e) (shift a b n m) (sym (adjust_shift a b n m e) ∙ s) in
      let z : j ≡ a + i = head-eq_of_cons-eq y in
      elim (zone? m a b) [
        | before k ↦ omega (arith, some_inj (sym x ∙ shift_before a b n m k))
        | inside k l ↦ none_some (sym (shift_inside a b n m k l) ∙ x)
        | after k l ↦ omega (arith, some_inj (sym x ∙ shift_after a b n m k l))
      ]
  adjust_new (j ∷ q) (m ∷ e) r i h s = go (eqb m j) refl (adjust_new q e r i h)
    where
      go : (c : Bool) → eqb m j ≡ c → (adjust q a b n e ≡ some (q ++ ((a + i) ∷ r)) → ⊥) → ⊥
      go true z ih =
          let (u, x, y) = map_some (λ u. m ∷ u) (adjust q a b n e) (sym (adjust_in a b n m j q e (eqb-true m j z)) ∙ s) in
          ih (x ∙ ap {B = Option Path} some (tail-eq_of_cons-eq y))
      go false z ih = let y : m ∷ e ≡ j ∷ (q ++ ((a + i) ∷ r)) = some_inj (sym (adjust_out a b n m j q e (eqb-false m j z)) ∙ s) in eqb-false m j z (head-eq_of_cons-eq y)

  -- what drops enters a child of the run
  pub adjust_none : (q p : Path) → adjust q a b n p ≡ none → (m : ℕ) × (s : Path) × (p ≡ q ++ (m ∷ s)) × (a ≤ m) × (m < b)
  adjust_none q [] e = none_some (sym e ∙ adjust_root a b n q)
  adjust_none [] (m ∷ p) e = elim (zone? m a b) [
    | before k ↦ none_some (sym e ∙ (adjust_shift a b n m p ∙ ap (map (λ j. j ∷ p)) (shift_before a b n m k)))
    | inside k l ↦ (m, p, refl, k, l)
    | after k l ↦ none_some (sym e ∙ (adjust_shift a b n m p ∙ ap (map (λ j. j ∷ p)) (shift_after a b n m k l)))
  ]
  adjust_none (j ∷ q) (i ∷ p) e = go (eqb i j) refl (adjust_none q p)
    where
      none_of : (o : Option Path) → map (λ r. i ∷ r) o ≡ none → o ≡ none
      none_of none z = refl
      none_of (some x) z = none_some (sym z)

      go : (c : Bool) → eqb i j ≡ c → (adjust q a b n p ≡ none → (m : ℕ) × (s : Path) × (p ≡ q ++ (m ∷ s)) × (a ≤ m) × (m < b)) → (m : ℕ) × (s : Path) × (i ∷ p ≡ j ∷ (q ++ (m ∷ s))) × (a ≤ m) × (m < b)
      go true z ih =
          let (m, s, x, y, w) = ih (none_of (adjust q a b n p) (sym (adjust_in a b n i j q p (eqb-true i j z)) ∙ e)) in
          (m, s, ap {B = Path} (λ t. i ∷ t) x ∙ ap {B = Path} (λ (t : ℕ). t ∷ (q ++ (m ∷ s))) (eqb-true i j z), y, w)
      go false z ih = none_some (sym e ∙ adjust_out a b n i j q p (eqb-false i j z))

  -- and what enters one drops
  pub adjust_inside : (q : Path) (m : ℕ) (s : Path) → a ≤ m → m < b → adjust q a b n (q ++ (m ∷ s)) ≡ none
  adjust_inside [] m s h k = adjust_shift a b n m s ∙ ap (map (λ j. j ∷ s)) (shift_inside a b n m h k)
  adjust_inside (j ∷ q) m s h k = adjust_in a b n j j q (q ++ (m ∷ s)) refl ∙ ap (map (λ r. j ∷ r)) (adjust_inside q m s h k)
