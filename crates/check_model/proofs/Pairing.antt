-- The partners of the new elements, written pair by pair; marks, written element by element; partners that rise.
-- Assumes nothing.
use Rattle.std.specs.Prelude.{◌≡◌, Bool, true, false, ◌⊎◌, ℕ, zero, suc, ◌+◌, ◌≤◌, ◌<◌, eqb, ltb, length, get_or, set, drop, replicate}
use Rattle.std.proofs.Math.Path.{refl}
use Rattle.std.proofs.Common.{sym, ap, ◌∙◌, inl, inr, arith, length-set, drop_of_length-le, get_or-set_same, get_or-set_other, eqb-true, eq-eqb, ne_eqb, lt-ltb, ltb-true}
use mathlib.Core.List.Memᴰ
use mathlib.Core.List.{List, [], ◌∷◌, zip, zip_with, Memᴰ}
use Rattle.std.proofs.Math.Numerals.{add-one}
use Rattle.std.proofs.Math.Seq.{drop-cons}
use Rattle.orders.specs.Lists.{any, All}
use Rattle.orders.specs.ListLaws.{bool_absurd, both_true, get_zeros}
use Rattle.definition.specs.Basics.{among}
use Rattle.check_model.specs.Clauses.{partnered, fresh, marked, rises}
use Rattle.check_model.specs.Pairing.{Within, Apart}

-- two numbers are the same or not
pub same? : (x y : ℕ) → (x ≡ y) ⊎ (x ≡ y → ⊥)
same? x y = go (eqb x y) refl
  where
    go : (b : Bool) → eqb x y ≡ b → (x ≡ y) ⊎ (x ≡ y → ⊥)
    go true e = inl (eqb-true x y e)
    go false e = inr (λ q. bool_absurd (eq-eqb x y q) e)

-- ── Two lists side by side ──────────────────────────────────────────────────────────────────────────────────

pub length_zip : (l m : List ℕ) → length m ≡ length l → length (zip l m) ≡ length l
unfolding zip zip_with
length_zip [] m e = refl
length_zip (a ∷ l) [] e = absurd (omega arith)
length_zip (a ∷ l) (b ∷ m) e = ap suc (length_zip l m (omega arith))

module _ (l m : List ℕ) where
  -- the pairs from place i on
  unfoldable pub pairs_from : ℕ → List (ℕ × ℕ)
  pairs_from i = zip (drop i l) (drop i m)

  pub pairs_more : (i : ℕ) → length m ≡ length l → i < length l → pairs_from i ≡ (get_or l i 0, get_or m i 0) ∷ pairs_from (i + 1)
  unfolding pairs_from zip zip_with
  pairs_more i e h = rw (drop-cons l i 0 h, drop-cons m i 0 (omega arith), add-one i)

  pub pairs_none : (i : ℕ) → length l ≤ i → pairs_from i ≡ []
  unfolding pairs_from zip zip_with
  pairs_none i h = rw (drop_of_length-le l h)

-- ── Partners ────────────────────────────────────────────────────────────────────────────────────────────────

pub length_partnered : (P : List (ℕ × ℕ)) (w : List ℕ) → length (partnered w P) ≡ length w
unfolding partnered
length_partnered [] w = refl
length_partnered (p ∷ P) w = length_partnered P (set w p.1 (suc p.0)) ∙ simp length-set

-- an element that no pair names keeps what it has
partnered_other : (P : List (ℕ × ℕ)) (w : List ℕ) (y : ℕ) → All (λ q. y ≡ q.1 → ⊥) P → get_or (partnered w P) y 0 ≡ get_or w y 0
unfolding partnered
partnered_other [] w y h = refl
partnered_other (p ∷ P) w y h = partnered_other P (set w p.1 (suc p.0)) y h.1 ∙ get_or-set_other w p.1 y (suc p.0) 0 h.0

-- the partner of a pair's new element is its old one
pub mem_partner : (P : List (ℕ × ℕ)) (w : List ℕ) (x y : ℕ) → Apart P → Within (length w) P → Memᴰ (x, y) P → get_or (partnered w P) y 0 ≡ suc x
unfolding partnered
mem_partner [] w x y a h m = absurd (Memᴰ.not-nil m)
mem_partner (p ∷ P) w x y a h m = go (Memᴰ.cases_cons m) (mem_partner P (set w p.1 (suc p.0)) x y a.1 (rw (length-set w p.1 (suc p.0)) h.1))
  where
    go : (◌≡◌ {A = ℕ × ℕ} (x, y) p) ⊎ Memᴰ (x, y) P → (Memᴰ (x, y) P → get_or (partnered (set w p.1 (suc p.0)) P) y 0 ≡ suc x) → get_or (partnered (set w p.1 (suc p.0)) P) y 0 ≡ suc x
    go (inl q) r =
        let ex : x ≡ p.0 = ap (λ (z : ℕ × ℕ). z.0) q in
        let ey : y ≡ p.1 = ap (λ (z : ℕ × ℕ). z.1) q in
        rw (ex, ey) (partnered_other P (set w p.1 (suc p.0)) p.1 a.0 ∙ get_or-set_same w p.1 (suc p.0) 0 h.0)
    go (inr q) r = r q

-- a partner was there, or comes from a pair
pub partner_mem : (P : List (ℕ × ℕ)) (w : List ℕ) (x y : ℕ) → Within (length w) P → get_or (partnered w P) y 0 ≡ suc x → (get_or w y 0 ≡ suc x) ⊎ Memᴰ (x, y) P
unfolding partnered
partner_mem [] w x y h e = inl e
partner_mem (p ∷ P) w x y h e = go (partner_mem P (set w p.1 (suc p.0)) x y (rw (length-set w p.1 (suc p.0)) h.1) e) (same? y p.1)
  where
    go : (get_or (set w p.1 (suc p.0)) y 0 ≡ suc x) ⊎ Memᴰ (x, y) P → (y ≡ p.1) ⊎ (y ≡ p.1 → ⊥) → (get_or w y 0 ≡ suc x) ⊎ Memᴰ (x, y) (p ∷ P)
    go (inr m) s = inr (Memᴰ.tail m)
    go (inl q) (inl s) =
        let z : suc p.0 ≡ suc x = sym (get_or-set_same w p.1 (suc p.0) 0 h.0) ∙ (ap (λ (j : ℕ). get_or (set w p.1 (suc p.0)) j 0) (sym s) ∙ q) in
        let ex : x ≡ p.0 = omega arith in
        inr (Memᴰ.head (λ i. (ex i, s i)))
    go (inl q) (inr s) = inl (sym (get_or-set_other w p.1 y (suc p.0) 0 s) ∙ q)

-- ── Fresh ───────────────────────────────────────────────────────────────────────────────────────────────────

-- no partner was there before
fresh_free : (P : List (ℕ × ℕ)) (w : List ℕ) → Within (length w) P → fresh w P ≡ true → All (λ q. get_or w q.1 0 ≡ 0) P
unfolding fresh
fresh_free [] w h e = tt
fresh_free (p ∷ P) w h e =
    let (a, b) = both_true (eqb (get_or w p.1 0) 0) (fresh (set w p.1 (suc p.0)) P) e in
    (eqb-true (get_or w p.1 0) 0 a, rest P (fresh_free P (set w p.1 (suc p.0)) (rw (length-set w p.1 (suc p.0)) h.1) b))
  where
    rest : (Q : List (ℕ × ℕ)) → All (λ q. get_or (set w p.1 (suc p.0)) q.1 0 ≡ 0) Q → All (λ q. get_or w q.1 0 ≡ 0) Q
    rest [] k = tt
    rest (q ∷ Q) k = (one (same? q.1 p.1), rest Q k.1)
      where
        one : (q.1 ≡ p.1) ⊎ (q.1 ≡ p.1 → ⊥) → get_or w q.1 0 ≡ 0
        one (inl s) = absurd (omega (arith, sym (get_or-set_same w p.1 (suc p.0) 0 h.0) ∙ (ap (λ (j : ℕ). get_or (set w p.1 (suc p.0)) j 0) (sym s) ∙ k.0)))
        one (inr s) = sym (get_or-set_other w p.1 q.1 (suc p.0) 0 s) ∙ k.0

-- so no new element stands twice
pub fresh_apart : (P : List (ℕ × ℕ)) (w : List ℕ) → Within (length w) P → fresh w P ≡ true → Apart P
unfolding fresh
fresh_apart [] w h e = tt
fresh_apart (p ∷ P) w h e =
    let (a, b) = both_true (eqb (get_or w p.1 0) 0) (fresh (set w p.1 (suc p.0)) P) e in
    let k : Within (length (set w p.1 (suc p.0))) P = rw (length-set w p.1 (suc p.0)) h.1 in
    (rest P (fresh_free P (set w p.1 (suc p.0)) k b), fresh_apart P (set w p.1 (suc p.0)) k b)
  where
    rest : (Q : List (ℕ × ℕ)) → All (λ q. get_or (set w p.1 (suc p.0)) q.1 0 ≡ 0) Q → All (λ q. p.1 ≡ q.1 → ⊥) Q
    rest [] k = tt
    rest (q ∷ Q) k = (λ s. omega (arith, sym (get_or-set_same w p.1 (suc p.0) 0 h.0) ∙ (ap (λ (j : ℕ). get_or (set w p.1 (suc p.0)) j 0) s ∙ k.0)), rest Q k.1)

-- and the other way round
pub apart_fresh : (P : List (ℕ × ℕ)) (w : List ℕ) → Apart P → All (λ q. get_or w q.1 0 ≡ 0) P → fresh w P ≡ true
unfolding fresh
apart_fresh [] w a h = refl
apart_fresh (p ∷ P) w a h = rw (eq-eqb (get_or w p.1 0) 0 h.0, apart_fresh P (set w p.1 (suc p.0)) a.1 (rest P a.0 h.1))
  where
    rest : (Q : List (ℕ × ℕ)) → All (λ q. p.1 ≡ q.1 → ⊥) Q → All (λ q. get_or w q.1 0 ≡ 0) Q → All (λ q. get_or (set w p.1 (suc p.0)) q.1 0 ≡ 0) Q
    rest [] n k = tt
    rest (q ∷ Q) n k = (get_or-set_other w p.1 q.1 (suc p.0) 0 (λ s. n.0 (sym s)) ∙ k.0, rest Q n.1 k.1)

-- ── Marks ───────────────────────────────────────────────────────────────────────────────────────────────────

pub length_marked : (l w : List ℕ) → length (marked w l) ≡ length w
unfolding marked
length_marked [] w = refl
length_marked (c ∷ l) w = length_marked l (set w c 1) ∙ simp length-set

-- an element is marked if it was, or is one of those
pub marks_told : (l w : List ℕ) (y : ℕ) → All (λ c. c < length w) l → (eqb (get_or (marked w l) y 0) 0 ≡ true → (eqb (get_or w y 0) 0 ≡ true) × (among l y ≡ false)) × (eqb (get_or (marked w l) y 0) 0 ≡ false → (eqb (get_or w y 0) 0 ≡ false) ⊎ (among l y ≡ true))
unfolding marked among any
marks_told [] w y h = (λ e. (e, refl), λ e. inl e)
marks_told (c ∷ l) w y h =
    let (a, b) = marks_told l (set w c 1) y (rw (length-set w c 1) h.1) in
    (λ e. let (f, g) = a e in none (same? y c) f g, λ e. some (same? y c) (b e))
  where
    none : (y ≡ c) ⊎ (y ≡ c → ⊥) → eqb (get_or (set w c 1) y 0) 0 ≡ true → any (eqb y) l ≡ false → (eqb (get_or w y 0) 0 ≡ true) × (any (eqb y) (c ∷ l) ≡ false)
    none (inl s) f g = absurd (omega (arith, sym (eqb-true (get_or (set w c 1) y 0) 0 f) ∙ (ap (λ (j : ℕ). get_or (set w c 1) j 0) s ∙ get_or-set_same w c 1 0 h.0)))
    none (inr s) f g = (ap (λ (v : ℕ). eqb v 0) (sym (get_or-set_other w c y 1 0 s)) ∙ f, rw (ne_eqb y c s) g)

    some : (y ≡ c) ⊎ (y ≡ c → ⊥) → (eqb (get_or (set w c 1) y 0) 0 ≡ false) ⊎ (any (eqb y) l ≡ true) → (eqb (get_or w y 0) 0 ≡ false) ⊎ (any (eqb y) (c ∷ l) ≡ true)
    some (inl s) f = inr (rw (eq-eqb y c s))
    some (inr s) (inl f) = inl (ap (λ (v : ℕ). eqb v 0) (sym (get_or-set_other w c y 1 0 s)) ∙ f)
    some (inr s) (inr g) = inr (rw (ne_eqb y c s) g)

-- ── Partners that rise ──────────────────────────────────────────────────────────────────────────────────────

-- each is above the last one
pub rises_above : (l : List ℕ) (k y x : ℕ) → rises k l ≡ true → get_or l y 0 ≡ suc x → k ≤ x
unfolding rises
rises_above [] k y x e q = absurd (omega arith)
rises_above (zero ∷ l) k zero x e q = absurd (omega arith)
rises_above (zero ∷ l) k (suc y) x e q = rises_above l k y x e q
rises_above (suc w ∷ l) k zero x e q = let (a, b) = both_true (ltb k (suc w)) (rises (suc w) l) e in omega (arith, ltb-true k (suc w) a)
rises_above (suc w ∷ l) k (suc y) x e q = let (a, b) = both_true (ltb k (suc w)) (rises (suc w) l) e in omega (arith, ltb-true k (suc w) a, rises_above l (suc w) y x b q)

pub rises_told : (l : List ℕ) (k y y' x x' : ℕ) → rises k l ≡ true → y < y' → get_or l y 0 ≡ suc x → get_or l y' 0 ≡ suc x' → x < x'
unfolding rises
rises_told [] k y y' x x' e h q r = absurd (omega arith)
rises_told (w ∷ l) k y zero x x' e h q r = absurd (omega arith)
rises_told (zero ∷ l) k zero (suc y') x x' e h q r = absurd (omega arith)
rises_told (suc w ∷ l) k zero (suc y') x x' e h q r = let (a, b) = both_true (ltb k (suc w)) (rises (suc w) l) e in omega (arith, rises_above l (suc w) y' x' b r)
rises_told (zero ∷ l) k (suc y) (suc y') x x' e h q r = rises_told l k y y' x x' e (omega arith) q r
rises_told (suc w ∷ l) k (suc y) (suc y') x x' e h q r = let (a, b) = both_true (ltb k (suc w)) (rises (suc w) l) e in rises_told l (suc w) y y' x x' b (omega arith) q r

pub told_rises : (l : List ℕ) (k : ℕ) → ((y x : ℕ) → get_or l y 0 ≡ suc x → k ≤ x) → ((y y' x x' : ℕ) → y < y' → get_or l y 0 ≡ suc x → get_or l y' 0 ≡ suc x' → x < x') → rises k l ≡ true
unfolding rises
told_rises [] k a t = refl
told_rises (zero ∷ l) k a t = told_rises l k (λ y x e. a (suc y) x e) (λ y y' x x' h e f. t (suc y) (suc y') x x' (omega arith) e f)
told_rises (suc w ∷ l) k a t =
    rw (lt-ltb k (suc w) (omega (arith, a 0 w refl)), told_rises l (suc w) (λ y x e. omega (arith, t 0 (suc y) w x (omega arith) refl e)) (λ y y' x x' h e f. t (suc y) (suc y') x x' (omega arith) e f))
