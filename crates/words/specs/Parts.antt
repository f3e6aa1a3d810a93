-- A part of a list written over (`paste`): a copy behind another or before it, what is read of one; and a splice.
-- Places and counts that add up are given by an equation, so that each caller has its own words for them.
-- Assumes nothing.
use Rattle.std.specs.Prelude.{◌≡◌, List, [], ◌∷◌, ◌++◌, get_or, set, take, drop}
use Rattle.std.proofs.Math.Path.{refl}
use Rattle.std.proofs.Common.{sym, ap, ap₂, ◌∙◌, append_assoc, add_assoc, add-one, arith, length-append, length-drop, drop-drop, take-add, drop_at, take_at, get_or-take, get_or-drop, get_or-append-add}
use Prim.Native.Nat.{ℕ, zero, suc, ◌+◌, ◌-◌, ◌≤◌, ◌<◌}
use Rattle.std.proofs.Math.Nat.{sub-zero, zero-sub, suc-sub-suc}
use Rattle.std.proofs.Math.ListN.{length, get_or-append}
use Rattle.std.proofs.Math.Seq.{paste, take-take, take_all, take-nil, take-append-add, length-take-le, length_paste_head}
use Rattle.std.proofs.lemmas.List.Edits.{take-paste, drop-paste}
use Rattle.std.proofs.lemmas.List.{take-append-le, set_split}

-- the list with `new` in place of what stands from a up to b
unfoldable pub spliced {ℓ} : {A : Type ℓ} → ℕ → ℕ → List A → List A → List A
spliced a b new l = take a l ++ (new ++ drop b l)

module _ {ℓ} {A : Type ℓ} where
  -- ── Two copies, side by side ──────────────────────────────────────────────────────────────────────────────

  take_both : (m n : ℕ) (s t : List A) → m ≤ length s → take (m + n) (take m s ++ t) ≡ take m s ++ take n t
  take_both m n s t h = ap (λ (k : ℕ). take (k + n) (take m s ++ t)) (sym (length-take-le m s h)) ∙ take-append-add (take m s) t n

  module _ (d : List A) (at : ℕ) (s : List A) (m : ℕ) (t : List A) (n p q : ℕ) (ep : p ≡ at + m) (eq : q ≡ m + n) (h : at + m ≤ length d) (k : m ≤ length s) where
    behind : paste (paste d at s m) p t n ≡ paste d at (take m s ++ t) q
    behind =
        let a : at ≤ length d = omega arith in
        let e : drop (at + m + n) (paste d at s m) ≡ drop (at + m + n) d =
        sym (drop-drop n (at + m) (paste d at s m)) ∙ (ap (drop n) (drop-paste d at s m a k) ∙ drop-drop n (at + m) d) in
        rw (ep, eq, take-paste d at s m a k, e, take_both m n s t k) (simp (append_assoc, add_assoc))

    -- the second right before the first
    pub paste_before : paste (paste d p t n) at s m ≡ paste d at (take m s ++ t) q
    paste_before =
        let r : List A = take n t ++ drop (at + m + n) d in
        let l = length-take-le (at + m) d h in
        let e : take at (take (at + m) d ++ r) ≡ take at d = take-append-le at (take (at + m) d) r (omega arith) ∙ take-take at (at + m) d (omega arith) in
        rw (ep, eq, append_assoc (take (at + m) d) (take n t) (drop (at + m + n) d), e, drop_at (take (at + m) d) r (at + m) l, take_both m n s t k)
        (simp (append_assoc, add_assoc))

    -- the second goes on with the source of the first
    pub paste_on : take n t ≡ take n (drop m s) → paste (paste d at s m) p t n ≡ paste d at s q
    paste_on e = behind ∙ rw (eq, take_both m n s t k, e, ← take-add m n s)

    -- the second right behind the whole of the first
    pub paste_paste : m ≡ length s → paste (paste d at s m) p t n ≡ paste d at (s ++ t) q
    paste_paste e = behind ∙ rw (take_all m s (omega arith))

  -- an element set is a copy of one
  pub set_paste : (l : List A) (i : ℕ) (x : A) → i < length l → set l i x ≡ paste l i (x ∷ []) 1
  set_paste l i x h = rw (add-one i) (set_split l i x h ∙ simp append_assoc)

  -- ── What is read of a copy: below it, inside, above ───────────────────────────────────────────────────────

  module _ (d : List A) (at : ℕ) (s : List A) (n : ℕ) (h : at + n ≤ length d) (k : n ≤ length s) (z : A) where
    pub get_d_below : (i : ℕ) → i < at → get_or (paste d at s n) i z ≡ get_or d i z
    get_d_below i l = rw append_assoc (get_or-append (take at d) _ z i (omega (arith, length-take-le at d (omega arith))) ∙ get_or-take at d i z l)

    pub get_d_inside : (i j : ℕ) → i < n → j ≡ at + i → get_or (paste d at s n) j z ≡ get_or s i z
    get_d_inside i j l e =
        let a = length-take-le at d (omega arith) in
        let f : j ≡ length (take at d) + i = omega arith in
        rw (append_assoc, f, get_or-append-add (take at d) (take n s ++ drop (at + n) d) i z)
        (get_or-append (take n s) (drop (at + n) d) z i (omega (arith, length-take-le n s k)) ∙ get_or-take n s i z l)

    pub get_d_above : (i : ℕ) → at + n ≤ i → get_or (paste d at s n) i z ≡ get_or d i z
    get_d_above i l =
        let j : ℕ = i - (at + n) in
        let a = length_paste_head d at s n (omega arith) k in
        let e : length (take at d ++ take n s) + j ≡ i = omega arith in
        let f : at + n + j ≡ i = omega arith in
        ap (λ (x : ℕ). get_or (paste d at s n) x z) (sym e)
        ∙ (get_or-append-add (take at d ++ take n s) (drop (at + n) d) j z ∙ (get_or-drop (at + n) d j z ∙ ap (λ (x : ℕ). get_or d x z) f))

  -- ── Two copies that do not meet ───────────────────────────────────────────────────────────────────────────

  pub drop_take : (b n : ℕ) (l : List A) → drop b (take n l) ≡ take (n - b) (drop b l)
  drop_take zero n l = rw sub-zero
  drop_take (suc b) zero l = rw zero-sub
  drop_take (suc b) (suc n) [] = sym (take-nil (suc n - suc b))
  drop_take (suc b) (suc n) (x ∷ l) = rw suc-sub-suc (drop_take b n l)

  drop_within : (i : ℕ) (x y : List A) → i ≤ length x → drop i (x ++ y) ≡ drop i x ++ y
  drop_within zero x y h = refl
  drop_within (suc i) [] y h = absurd (omega arith)
  drop_within (suc i) (a ∷ x) y h = drop_within i x y (omega arith)

  -- in either order the same: m elements of s at p, and n of t at q, behind them
  pub paste_swap : (d s t : List A) (p m q n : ℕ) → p + m ≤ q → q ≤ length d → m ≤ length s → paste (paste d q t n) p s m ≡ paste (paste d p s m) q t n
  paste_swap d s t p m q n h l k =
      let g : ℕ = q - (p + m) in
      let X : List A = take n t ++ drop (q + n) d in
      let H : List A = take p d ++ take m s in
      let a : take p (take q d ++ X) ≡ take p d = take-append-le p (take q d) X (omega (arith, length-take-le q d l)) ∙ take-take p q d (omega arith) in
      let b : drop (p + m) (take q d ++ X) ≡ take g (drop (p + m) d) ++ X =
      drop_within (p + m) (take q d) X (omega (arith, length-take-le q d l)) ∙ ap (λ (y : List A). y ++ X) (drop_take (p + m) q d) in
      let u : length H + g ≡ q = omega (arith, length_paste_head d p s m (omega arith) k) in
      let v : take q (H ++ drop (p + m) d) ≡ H ++ take g (drop (p + m) d) = ap (λ (y : ℕ). take y (H ++ drop (p + m) d)) (sym u) ∙ take-append-add H (drop (p + m) d) g in
      let f : p + m + (g + n) ≡ q + n = omega arith in
      let w : drop (q + n) (H ++ drop (p + m) d) ≡ drop (q + n) d =
      ap (λ (y : ℕ). drop y (H ++ drop (p + m) d)) (sym f)
      ∙ (sym (drop-drop (g + n) (p + m) (H ++ drop (p + m) d)) ∙ (ap (drop (g + n)) (drop-paste d p s m (omega arith) k) ∙ (drop-drop (g + n) (p + m) d ∙ ap (λ (y : ℕ). drop y d) f))) in
      let left : paste (paste d q t n) p s m ≡ H ++ (take g (drop (p + m) d) ++ X) =
      ap (λ (y : List A). take p y ++ take m s ++ drop (p + m) y) (append_assoc (take q d) (take n t) (drop (q + n) d)) ∙ ap₂ (λ (x y : List A). x ++ take m s ++ y) a b in
      let right : paste (paste d p s m) q t n ≡ H ++ (take g (drop (p + m) d) ++ X) = ap₂ (λ (x y : List A). x ++ take n t ++ y) v w ∙ simp append_assoc in
      left ∙ sym right

  -- ── A splice ──────────────────────────────────────────────────────────────────────────────────────────────

  module _ (d new : List A) (n a b : ℕ) (h : a ≤ b) (i : b ≤ n) (j : n ≤ length d) where
    pub length_spliced : length (spliced a b new (take n d)) ≡ a + length new + (n - b)
    unfolding spliced
    length_spliced =
        let e = length-take-le n d j in
        simp (length-append, length-drop) (omega (arith, length-take-le a (take n d) (omega arith)))

    pub take_spliced : (r : List A) → take (a + length new + (n - b)) (spliced a b new (take n d) ++ r) ≡ spliced a b new (take n d)
    take_spliced r = take_at (spliced a b new (take n d)) r (a + length new + (n - b)) length_spliced

    -- the tail moved to its new place, and then the new elements copied in before it
    pub splice_made : a + length new + (n - b) ≤ length d → paste (paste d (a + length new) (drop b d) (n - b)) a new (length new) ≡ spliced a b new (take n d) ++ drop (a + length new + (n - b)) d
    unfolding spliced
    splice_made k =
        let m : ℕ = length new in
        paste_before d a new m (drop b d) (n - b) (a + m) (m + (n - b)) refl refl (omega arith) (omega arith)
        ∙ rw (take_both m (n - b) new (drop b d) (omega arith), take_all m new (omega arith), take-take a n d (omega arith), drop_take b n d)
        (simp (append_assoc, add_assoc))
