-- Where the clauses hold, pairs rise in preorder: of two pairs the one with the lower new element has the lower old element. So code asks no more of the order than that.
-- Assumes nothing.
use Rattle.std.specs.Prelude.{◌≡◌, refl, ◌⊎◌, ℕ, zero, suc, ◌+◌, ◌≤◌, ◌<◌, length}
use Rattle.std.proofs.Common.{sym, ap, ◌∙◌, subst, inl, inr, ⊎_elim, arith}
use mathlib.Core.List.{List, [], ◌∷◌, Memᴰ}
use Rattle.std.proofs.Math.Option.{Option, some}
use Rattle.orders.specs.Lists.{Pairs}
use Rattle.orders.specs.ListLaws.{some_inj, lt_or_le, All-mem}
use Rattle.orders.specs.Tree.{Tree}
use Rattle.definition.specs.Elements.{Table, table, row, parent, child}
use Rattle.definition_laws.specs.Rows.{row_of}
use Rattle.definition_laws.specs.Kin.{IsParent, Kin, root, below, kin, parent_is, stands}
use Rattle.definition_laws.specs.Intervals.{line_interval, interval_line}
use Rattle.check_laws.proofs.Meaning.{ParentsPair, Says}
use Rattle.check_laws.proofs.Sweep.{sibling_order}
use Rattle.check_model.proofs.Pairing.{same?}

-- two that are told apart by a number, and have the same, are one
pub pairs_same : {A : Type 0} (f : A → ℕ) (l : List A) → Pairs (λ p q. f p ≡ f q → ⊥) l → (p q : A) → Memᴰ p l → Memᴰ q l → f p ≡ f q → p ≡ q
pairs_same f [] d p q m n e = absurd (mathlib.Core.List.Memᴰ.not-nil m)
pairs_same f (a ∷ l) d p q m n e = go (mathlib.Core.List.Memᴰ.cases_cons m) (mathlib.Core.List.Memᴰ.cases_cons n) (pairs_same f l d.1 p q)
  where
    go : (p ≡ a) ⊎ Memᴰ p l → (q ≡ a) ⊎ Memᴰ q l → (Memᴰ p l → Memᴰ q l → f p ≡ f q → p ≡ q) → p ≡ q
    go (inl u) (inl v) r = u ∙ sym v
    go (inl u) (inr v) r = absurd (All-mem (λ z. f a ≡ f z → ⊥) l q d.0 v (ap f (sym u) ∙ e))
    go (inr u) (inl v) r = absurd (All-mem (λ z. f a ≡ f z → ⊥) l p d.0 u (ap f (sym v) ∙ sym e))
    go (inr u) (inr v) r = r u v e

-- ── Preorder ────────────────────────────────────────────────────────────────────────────────────────────────

module _ (ts : List (Tree ℕ)) where
  abbrev T : Table
  T = table 0 0 ts

  -- an element stands in its own line
  own_line : (m : ℕ) → m < length T → Memᴰ m (row T m).line
  unfolding row_of
  own_line m h = let s = stands ts m h in rw (s.told, s.number) (mathlib.Core.List.Memᴰ.head refl)

  -- what stands between an element and its child has a parent from that element on
  pub between : (m e z : ℕ) → e < length T → parent T e ≡ some m → m < z → z ≤ e → (k : ℕ) × (parent T z ≡ some k) × (m ≤ k)
  between m e z h p low high =
      let i = parent_is ts e m h p in
      let line : Memᴰ m (row T e).line = rw i.line (mathlib.Core.List.Memᴰ.tail (own_line m i.within)) in
      let (w, a, b) = line_interval ts m e h line in
      let z-in : z < length T = omega arith in
      go z-in (kin ts z z-in) (interval_line ts m z w z-in (omega arith) (omega arith))
    where
      go : z < length T → Kin ts z → Memᴰ m (row T z).line → (k : ℕ) × (parent T z ≡ some k) × (m ≤ k)
      go h (root r) l = absurd (⊎_elim (λ (q : m ≡ z). omega arith) (λ (q : Memᴰ m []). mathlib.Core.List.Memᴰ.not-nil q) (mathlib.Core.List.Memᴰ.cases_cons (rw r.line at l)))
      go h (below k r) l = (k, r.parent, ⊎_elim (λ (q : m ≡ z). absurd (omega arith)) (λ (q : Memᴰ m (row T k).line). (line_interval ts m k r.within q).1) (mathlib.Core.List.Memᴰ.cases_cons (rw r.line at l)))

-- ── Pairs rise ──────────────────────────────────────────────────────────────────────────────────────────────

module _ (os ns : List (Tree ℕ)) (P : List (ℕ × ℕ)) (changed : List ℕ) (s : Says os ns P changed)
    (inside : (x y : ℕ) → Memᴰ (x, y) P → (x < length (table 0 0 os)) × (y < length (table 0 0 ns))) where
  abbrev O : Table
  O = table 0 0 os

  abbrev N : Table
  N = table 0 0 ns

  -- an old element has one new one, and the other way round
  one_new : (x y y' : ℕ) → Memᴰ (x, y) P → Memᴰ (x, y') P → y ≡ y'
  one_new x y y' m n = ap (λ (p : ℕ × ℕ). p.1) (pairs_same (λ (p : ℕ × ℕ). p.0) P s.olds (x, y) (x, y') m n refl)

  one_old : (x x' y : ℕ) → Memᴰ (x, y) P → Memᴰ (x', y) P → x ≡ x'
  one_old x x' y m n = ap (λ (p : ℕ × ℕ). p.0) (pairs_same (λ (p : ℕ × ℕ). p.1) P s.news (x, y) (x', y) m n refl)

  -- siblings
  siblings_rise : (x y x' y' p q : ℕ) → Memᴰ (x, y) P → Memᴰ (x', y') P → y < y' → parent O x ≡ some p → parent O x' ≡ some p → parent N y ≡ some q → parent N y' ≡ some q → x < x'
  siblings_rise x y x' y' p q m n l a b c d = go (lt_or_le x x') (same? x x')
    where
      i : x < length O
      i = (inside x y m).0

      i' : x' < length O
      i' = (inside x' y' n).0

      go : (x < x') ⊎ (x' ≤ x) → (x ≡ x') ⊎ (x ≡ x' → ⊥) → x < x'
      go (inl h) t = h
      go (inr h) (inl t) = absurd (omega (arith, one_new x y y' m (subst (λ (z : ℕ). Memᴰ (z, y') P) (sym t) n)))
      go (inr h) (inr t) =
          let older : child O x' < child O x = (sibling_order os p x' x (parent_is os x' p i' b) (parent_is os x p i a)).1 (omega (arith, lt_of h t)) in
          let (_, k) = s.order x' y' x y n m (b ∙ sym a, older) in
          let j = (sibling_order ns q y' y (parent_is ns y' q (inside x' y' n).1 d) (parent_is ns y q (inside x y m).1 c)).0 k in
          absurd (omega arith)
        where
          lt_of : x' ≤ x → (x ≡ x' → ⊥) → x' < x
          lt_of h t = ⊎_elim (λ k. k) (λ k. absurd (t (omega arith))) (lt_or_le x' x)

  rise : (f x y x' y' : ℕ) → y + y' < f → Memᴰ (x, y) P → Memᴰ (x', y') P → y < y' → x < x'
  rise zero x y x' y' z m n l = absurd (omega arith)
  rise (suc f) x y x' y' z m n l = up (s.parents x' y' n) (s.parents x y m) (rise f)
    where
      Step : Type 0
      Step = (x y x' y' : ℕ) → y + y' < f → Memᴰ (x, y) P → Memᴰ (x', y') P → y < y' → x < x'

      -- y is below the parent of y': a sibling of y', or below one
      under : Step → (k' : ParentsPair O N P x' y') → (k : ParentsPair O N P x y) → k'.new < y → x < x'
      under r k' k h =
          let iy = parent_is ns y k.new (inside x y m).1 k.up' in
          let iy' = parent_is ns y' k'.new (inside x' y' n).1 k'.up' in
          let (c, e, g) = between ns k'.new y' y (inside x' y' n).1 k'.up' h (omega arith) in
          let ce : c ≡ k.new = some_inj (sym e ∙ k.up') in
          go iy iy' (omega arith) (same? k.new k'.new)
        where
          go : IsParent ns k.new y → IsParent ns k'.new y' → k'.new ≤ k.new → (k.new ≡ k'.new) ⊎ (k.new ≡ k'.new → ⊥) → x < x'
          go iy iy' g (inl t) =
              let e : k.old ≡ k'.old = one_old k.old k'.old k.new k.paired (subst (λ (j : ℕ). Memᴰ (k'.old, j) P) (sym t) k'.paired) in
              siblings_rise x y x' y' k'.old k'.new m n l (k.up ∙ ap {B = Option ℕ} some e) k'.up (k.up' ∙ ap {B = Option ℕ} some t) k'.up'
          go iy iy' g (inr t) =
              let lt : k'.new < k.new = ⊎_elim (λ j. j) (λ j. absurd (t (omega arith))) (lt_or_le k'.new k.new) in
              let b₁ = iy.before in
              let b₂ = iy'.before in
              let first : k.old < x' = r k.old k.new x' y' (omega arith) k.paired n (omega arith) in
              let outer : k'.old < k.old = r k'.old k'.new k.old k.new (omega arith) k'.paired k.paired lt in
              ⊎_elim (λ j. j) (λ (j : x' ≤ x).
              let (c, e, g) = between os k.old x x' (inside x y m).0 k.up first j in
              let ce : c ≡ k'.old = some_inj (sym e ∙ k'.up) in
              absurd (omega arith)) (lt_or_le x x')

      up : ((x' ≡ 0) × (y' ≡ 0)) ⊎ ParentsPair O N P x' y' → ((x ≡ 0) × (y ≡ 0)) ⊎ ParentsPair O N P x y → Step → x < x'
      up (inl t) k r = absurd (omega arith)
      up (inr k') k r =
          let iy' = parent_is ns y' k'.new (inside x' y' n).1 k'.up' in
          let ix' = parent_is os x' k'.old (inside x' y' n).0 k'.up in
          go iy'.before ix'.before (same? y k'.new) (lt_or_le y k'.new) k
        where
          go : k'.new < y' → k'.old < x' → (y ≡ k'.new) ⊎ (y ≡ k'.new → ⊥) → (y < k'.new) ⊎ (k'.new ≤ y) → ((x ≡ 0) × (y ≡ 0)) ⊎ ParentsPair O N P x y → x < x'
          go a b (inl t) h k = omega (arith, one_old x k'.old k'.new (subst (λ (j : ℕ). Memᴰ (x, j) P) t m) k'.paired)
          go a b (inr t) (inl h) k = omega (arith, r x y k'.old k'.new (omega arith) m k'.paired h)
          go a b (inr t) (inr h) (inl k) = absurd (t (omega (arith, k.1)))
          go a b (inr t) (inr h) (inr k) = under r k' k (⊎_elim (λ j. j) (λ j. absurd (t (omega arith))) (lt_or_le k'.new y))

  pub pairs_rise : (x y x' y' : ℕ) → Memᴰ (x, y) P → Memᴰ (x', y') P → y < y' → x < x'
  pairs_rise x y x' y' m n l = rise (suc (y + y')) x y x' y' (omega arith) m n l
