-- Clause 6, asked of each element and its parent alone. Where the parents of pairs are pairs, an element without a partner stands below no pair's new element but through the
-- topmost of its kind; so it is at or below a changed element exactly if that one is changed.
-- Assumes nothing.
use Rattle.std.specs.Prelude.{◌≡◌, Bool, ◌||◌, ◌⊎◌}
use Rattle.std.proofs.Math.Path.{refl, sym, ap}
use Rattle.std.proofs.Common.{◌∙◌, subst, inl, inr, arith, eq-eqb, ne_eqb}
use Rattle.std.proofs.Math.Bool.{true, false, not, or-true, not-not}
use mathlib.Core.List.{List, Memᴰ}
use Rattle.std.proofs.Math.Option.{none, some}
use Prim.Native.Nat.{ℕ, zero, suc, ◌<◌}
use Rattle.std.proofs.Math.Dec.{eqb}
use Rattle.std.proofs.Math.ListN.{length, get_or}
use Rattle.orders.specs.Lists.{All}
use Rattle.orders.specs.ListLaws.{bool_absurd, either_true, some_inj, none_some}
use Rattle.orders.specs.Tree.{Tree}
use Rattle.definition.specs.Basics.{among}
use Rattle.definition.specs.Elements.{Table, table, parent}
use Rattle.definition_laws.specs.Kin.{Kin, root, below, kin}
use Rattle.read_element_table.specs.Told.{element_of}
use Rattle.check_laws.specs.Check.{is_covered}
use Rattle.check_laws.proofs.Meaning.{ParentsPair, Covered, covered_told, told_covered}
use Rattle.check_laws.proofs.Sweep.{covered_root, covered_below}
use Rattle.check_model.specs.Clauses.{entry, loose, accounted}

-- a test against 0
zero? : (n : ℕ) → (n ≡ 0) ⊎ ((x : ℕ) × (n ≡ suc x))
zero? zero = inl refl
zero? (suc n) = inr (n, refl)

is_zero : (n x : ℕ) → n ≡ suc x → eqb n 0 ≡ false
is_zero n x e = ne_eqb n 0 (λ q. omega arith)

module _ (os ns : List (Tree ℕ)) (P : List (ℕ × ℕ)) (changed : List ℕ) (new w c : List ℕ)
    -- w holds the partners, c the marks
    (partner : (x y : ℕ) → Memᴰ (x, y) P → get_or w y 0 ≡ suc x)
    (pair : (x y : ℕ) → get_or w y 0 ≡ suc x → Memᴰ (x, y) P)
    (mark : (y : ℕ) → eqb (get_or c y 0) 0 ≡ not (among changed y))
    -- word 3 tells the parent, and there is one root
    (up : (y : ℕ) → y < length (table 0 0 ns) → parent (table 0 0 ns) y ≡ element_of (entry new y 3))
    (alone : (y : ℕ) → y < length (table 0 0 ns) → parent (table 0 0 ns) y ≡ none → y ≡ 0)
    (named : All (λ y. y < length (table 0 0 ns)) changed)
    (roots : Memᴰ (0, 0) P) where
  abbrev N : Table
  N = table 0 0 ns

  -- ── An element's own word ──

  parent_word : (y m : ℕ) → y < length N → parent N y ≡ some m → entry new y 3 ≡ suc m
  unfolding element_of
  parent_word y m h e = go (entry new y 3) (sym (up y h) ∙ e)
    where
      go : (k : ℕ) → element_of k ≡ some m → k ≡ suc m
      go zero q = none_some q
      go (suc k) q = ap suc (some_inj q)

  -- it has a partner
  with_partner : (x y : ℕ) → get_or w y 0 ≡ suc x → accounted new w c y ≡ not (among changed y)
  unfolding accounted
  with_partner x y e = rw (is_zero (get_or w y 0) x e) (mark y)

  -- it has none
  without : (y : ℕ) → get_or w y 0 ≡ 0 → accounted new w c y ≡ (among changed y || loose w (entry new y 3))
  unfolding accounted
  without y e = rw (eq-eqb (get_or w y 0) 0 e, mark y) (ap (λ (b : Bool). b || loose w (entry new y 3)) (not-not (among changed y)))

  -- ── So much is asked ──

  module _ (parents : (x y : ℕ) → Memᴰ (x, y) P → ((x ≡ 0) × (y ≡ 0)) ⊎ ParentsPair (table 0 0 os) N P x y)
      (asked : (y : ℕ) → y < length N → accounted new w c y ≡ true) where
    unchanged : (x y : ℕ) → y < length N → get_or w y 0 ≡ suc x → among changed y ≡ false
    unchanged x y h e = go (among changed y) (sym (with_partner x y e) ∙ asked y h)
      where
        go : (b : Bool) → not b ≡ true → b ≡ false
        go true q = bool_absurd refl (sym q)
        go false q = refl

    -- an element is at or below a changed one exactly if it has no partner
    told : (f y : ℕ) → y < f → y < length N → is_covered os ns P changed y ≡ eqb (get_or w y 0) 0
    unfolding loose
    told zero y z h = absurd (omega arith)
    told (suc f) y z h = go (kin ns y h) (told f)
      where
        go : Kin ns y → ((y : ℕ) → y < f → y < length N → is_covered os ns P changed y ≡ eqb (get_or w y 0) 0) → is_covered os ns P changed y ≡ eqb (get_or w y 0) 0
        go (root r) ih =
            let e : get_or w y 0 ≡ 1 = rw (alone y h r.parent) (partner 0 0 roots) in
            covered_root os ns P changed named y h r.parent ∙ (unchanged 0 y h e ∙ sym (is_zero (get_or w y 0) 0 e))
        go (below m r) ih = covered_below os ns P changed named y m h r.parent ∙ rw (ih m (omega (arith, r.before)) r.within) (one (zero? (get_or w y 0)))
          where
            one : (get_or w y 0 ≡ 0) ⊎ ((x : ℕ) × (get_or w y 0 ≡ suc x)) → (among changed y || eqb (get_or w m 0) 0) ≡ eqb (get_or w y 0) 0
            one (inl e) = sym (without y e ∙ ap (λ (k : ℕ). among changed y || loose w k) (parent_word y m h r.parent)) ∙ (asked y h ∙ sym (eq-eqb (get_or w y 0) 0 e))
            one (inr (x, e)) = rw (unchanged x y h e, is_zero (get_or w y 0) x e) (up' (parents x y (pair x y e)))
              where
                up' : ((x ≡ 0) × (y ≡ 0)) ⊎ ParentsPair (table 0 0 os) N P x y → eqb (get_or w m 0) 0 ≡ false
                up' (inl t) = absurd (omega (arith, r.before, t.1))
                up' (inr k) = is_zero (get_or w m 0) k.old (partner k.old m (subst (λ (j : ℕ). Memᴰ (k.old, j) P) (some_inj (sym k.up' ∙ r.parent)) k.paired))

    pub asked_new : (y : ℕ) → y < length N → ((x : ℕ) → ¬ Memᴰ (x, y) P) → Covered N changed y
    asked_new y h n = covered_told os ns P changed y (told (suc y) y (omega arith) h ∙ go (zero? (get_or w y 0)))
      where
        go : (get_or w y 0 ≡ 0) ⊎ ((x : ℕ) × (get_or w y 0 ≡ suc x)) → eqb (get_or w y 0) 0 ≡ true
        go (inl e) = eq-eqb (get_or w y 0) 0 e
        go (inr (x, e)) = absurd (n x (pair x y e))

    pub asked_kept : (x y : ℕ) → y < length N → Memᴰ (x, y) P → ¬ Covered N changed y
    asked_kept x y h m k = bool_absurd (told_covered os ns P changed y k) (told (suc y) y (omega arith) h ∙ is_zero (get_or w y 0) x (partner x y m))

  -- ── No more is asked ──

  module _ (fresh' : (y : ℕ) → y < length N → ((x : ℕ) → ¬ Memᴰ (x, y) P) → Covered N changed y)
      (kept : (x y : ℕ) → Memᴰ (x, y) P → ¬ Covered N changed y) where
    not_covered : (x y : ℕ) → Memᴰ (x, y) P → is_covered os ns P changed y ≡ false
    not_covered x y m = go (is_covered os ns P changed y) refl
      where
        go : (b : Bool) → is_covered os ns P changed y ≡ b → is_covered os ns P changed y ≡ false
        go true e = absurd (kept x y m (covered_told os ns P changed y e))
        go false e = e

    left_false : (a b : Bool) → (a || b) ≡ false → a ≡ false
    left_false true b e = e
    left_false false b e = refl

    pub says_accounted : (y : ℕ) → y < length N → accounted new w c y ≡ true
    unfolding loose
    says_accounted y h = go (zero? (get_or w y 0)) (kin ns y h)
      where
        go : (get_or w y 0 ≡ 0) ⊎ ((x : ℕ) × (get_or w y 0 ≡ suc x)) → Kin ns y → accounted new w c y ≡ true
        go (inr (x, e)) (root r) = with_partner x y e ∙ ap not (sym (covered_root os ns P changed named y h r.parent) ∙ not_covered x y (pair x y e))
        go (inr (x, e)) (below m r) = with_partner x y e ∙ ap not (left_false (among changed y) (is_covered os ns P changed m) (sym (covered_below os ns P changed named y m h r.parent) ∙ not_covered x y (pair x y e)))
        go (inl e) (root r) = absurd (omega (arith, sym e ∙ (ap (λ (j : ℕ). get_or w j 0) (alone y h r.parent) ∙ partner 0 0 roots)))
        go (inl e) (below m r) =
            without y e ∙ (ap (λ (k : ℕ). among changed y || loose w k) (parent_word y m h r.parent)
            ∙ one (either_true (among changed y) (is_covered os ns P changed m) (sym (covered_below os ns P changed named y m h r.parent) ∙ told_covered os ns P changed y (fresh' y h (λ x k. omega (arith, sym e ∙ partner x y k))))))
          where
            one : (among changed y ≡ true) ⊎ (is_covered os ns P changed m ≡ true) → (among changed y || loose w (suc m)) ≡ true
            one (inl a) = rw a
            one (inr b) = none' (zero? (get_or w m 0))
              where
                none' : (get_or w m 0 ≡ 0) ⊎ ((x : ℕ) × (get_or w m 0 ≡ suc x)) → (among changed y || eqb (get_or w m 0) 0) ≡ true
                none' (inl z) = rw (eq-eqb (get_or w m 0) 0 z) (or-true (among changed y))
                none' (inr (x, z)) = bool_absurd b (not_covered x m (pair x m z))
