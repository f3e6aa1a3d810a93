-- The region of each change: what each test tells, and a turn of each loop.
-- Assumes nothing.
use mathlib.Core.Path.{◌≡◌, refl, sym, ap, ◌∙◌}
use mathlib.Core.Bool.{Bool, true, false, cond, not, ◌||◌}
use mathlib.Core.List.{List, [], ◌∷◌, ◌++◌, map, append_assoc, append-nil}
use Prim.Native.Nat.{ℕ, zero, suc, ◌+◌, ◌-◌, ◌*◌, ◌≤◌, ◌<◌}
use native.Mathlib.Nat.{sub-zero, sub_self}
use native.Mathlib.Numerals.{add-one}
use native.Mathlib.Omega.{arith}
use lib.ListN.{length, get_or, set, drop, length-set, length-map}
use lib.Seq.{drop-cons, drop-length, set_at}
use Rattle.std.specs.Prelude.{None, Some}
use Rattle.std.proofs.Math.Bool.{and-false}
use Rattle.std.specs.Prelude.{Option as Maybe}
use Rattle.plan_sort.specs.Lists.{one_past}
use lib.Dec.{ltb, eqb}
use borrow.Author.Tests.{ne_eqb, lt-ltb, le-ltb}
use Rattle.definition_laws.specs.Basics.{up_from, up_long, up_more}
use Rattle.record_changes.specs.ChangeRow.{ChangeRow, row_of}
use Rattle.record_changes.specs.ChangeRowLaws.{row_at}
use Rattle.plan_edge.specs.Rule.{target_parent, of_root, takes, region_depth, innermost, region_from, regions_of}

-- ── Depths ──────────────────────────────────────────────────────────────────────────────────────────────────

module _ (w v : List ℕ) (k : ℕ) (a : Bool) (e : a ≡ of_root w (row_at v k)) where
  depth_is : region_depth w (row_at v k) ≡ cond a 0 (get_or (drop (14 * k) v) 8 0)
  unfolding region_depth row_at row_of
  depth_is = rw e

  pub root_depth : a ≡ true → 0 ≡ region_depth w (row_at v k)
  root_depth q = rw (depth_is, q)

  pub parent_depth_lem : a ≡ false → (d : ℕ) → d ≡ get_or (drop (14 * k) v) 8 0 → d ≡ region_depth w (row_at v k)
  parent_depth_lem q d f = rw (depth_is, q) f

-- ── The innermost ───────────────────────────────────────────────────────────────────────────────────────────

module _ (w v : List ℕ) (k j : ℕ) (b : Maybe ℕ) (t : Bool) (e : t ≡ takes w j (row_at v j) k (row_at v k)) where
  opens : innermost w v k j (one_past b) ≡ cond t (cond (eqb (one_past b) 0 || ltb (region_depth w (row_at v (one_past b - 1))) (region_depth w (row_at v j))) (suc j) (one_past b)) (one_past b)
  unfolding innermost
  opens = rw e

  pub untaken : t ≡ false → one_past b ≡ innermost w v k j (one_past b)
  untaken q = rw (opens, q)

  module _ (q : t ≡ true) where
    pub last_taken : b ≡ None → suc j ≡ innermost w v k j (one_past b)
    last_taken z = rw (opens, q, z)

    module _ {i : ℕ} (z : b ≡ Some i) (x y : ℕ) (f : x ≡ region_depth w (row_at v i)) (g : y ≡ region_depth w (row_at v j)) where
      before : innermost w v k j (one_past b) ≡ cond (ltb x y) (suc j) (one_past b)
      before =
          let p : suc i - 1 ≡ i = omega arith in
          rw (opens, q, z, ne_eqb (suc i) 0 (λ u. omega arith), p, ← f, ← g)

      pub further_in : x < y → suc j ≡ innermost w v k j (one_past b)
      further_in h = rw (before, lt-ltb x y h)

      pub no_further : y ≤ x → one_past b ≡ innermost w v k j (one_past b)
      no_further h = rw (before, le-ltb x y h)

-- a root's replacement belongs to none
root_untaken : (w : List ℕ) (j k : ℕ) (r c : ChangeRow) → of_root w c ≡ true → takes w j r k c ≡ false
unfolding takes
root_untaken w j k r c e = rw e (and-false (not (eqb r.region 0)))

pub root_nowhere : (w v : List ℕ) (k n : ℕ) (a : Bool) → a ≡ of_root w (row_at v k) → a ≡ true → 0 ≡ region_from w v k 0 n
unfolding region_from innermost
root_nowhere w v k n a e q = go 0 n
  where
    go : (j m : ℕ) → 0 ≡ region_from w v k j m
    go j zero = refl
    go j (suc m) = rw (root_untaken w j k (row_at v j) (row_at v k) (sym e ∙ q)) (go (suc j) m)

-- b is the region of the change at place k, with the target parent p, among the places from j on
pub record Seeking (w v : List ℕ) (k n p j b : ℕ) : Type 0 where
  pub no_root : of_root w (row_at v k) ≡ false
  pub parent : p ≡ target_parent w (row_at v k)
  pub inside : j ≤ n
  pub low : b ≤ 256
  pub same : b ≡ region_from w v k j (n - j)

module _ (w v : List ℕ) (k n p : ℕ) where
  pub seeking_start : (a : Bool) → a ≡ of_root w (row_at v k) → a ≡ false → p ≡ target_parent w (row_at v k) → Seeking w v k n p n 0
  unfolding region_from
  seeking_start a e q f = record { no_root = sym e ∙ q; parent = f; inside = omega arith; low = omega arith; same = rw (sub_self n) }

  module _ {j b : ℕ} (s : Seeking w v k n p j b) where
    pub seeking_next : 0 < j → (c : ℕ) → c ≡ innermost w v k (j - 1) b → c ≤ 256 → Seeking w v k n p (j - 1) c
    unfolding region_from
    seeking_next h c e l =
        let m : n - (j - 1) ≡ suc (n - j) = omega (arith, s.inside) in
        let i : suc (j - 1) ≡ j = omega arith in
        record { no_root = s.no_root; parent = s.parent; inside = omega (arith, s.inside); low = l; same = rw (m, i, ← s.same) e }

    pub seeking_done : j ≤ 0 → b ≡ region_from w v k 0 n
    seeking_done h = let z : j ≡ 0 = omega arith in s.same ∙ rw (z, sub-zero n)

-- ── All regions ─────────────────────────────────────────────────────────────────────────────────────────────

-- the regions of k changes are found
pub record Finding (w v R₀ : List ℕ) (n : ℕ) (R : List ℕ) (k : ℕ) : Type 0 where
  pub inside : k ≤ n
  pub long : length R ≡ length R₀
  pub same : R ≡ map (λ i. region_from w v i 0 n) (up_from 0 k) ++ drop k R₀

module _ (w v R₀ : List ℕ) (n : ℕ) where
  pub finding_start : Finding w v R₀ n R₀ 0
  unfolding up_from
  finding_start = record { inside = omega arith; long = refl; same = refl }

  module _ {R : List ℕ} {k : ℕ} (s : Finding w v R₀ n R k) where
    pub finding_next : n ≡ length R₀ → k < n → (r : ℕ) → r ≡ region_from w v k 0 n → Finding w v R₀ n (set R k r) (k + 1)
    finding_next fits h r e = rw (add-one k) (record {
      inside = omega arith;
      long = simp length-set s.long;
      same =
          ap (λ (l : List ℕ). set l k r) s.same
          ∙ rw (drop-cons R₀ k 0 (omega arith), up_more f 0 k, append_assoc (map f (up_from 0 k)) (f (0 + k) ∷ []) (drop (suc k) R₀))
          (set_at (map f (up_from 0 k)) (get_or R₀ k 0) (drop (suc k) R₀) r k (length-map (up_from 0 k) f ∙ up_long 0 k) ∙ ap {B = List ℕ} (λ (x : ℕ). map f (up_from 0 k) ++ (x ∷ drop (suc k) R₀)) (e ∙ ap f (omega arith)));
    })
      where
        f : ℕ → ℕ
        f i = region_from w v i 0 n

    pub finding_done : n ≡ length R₀ → n ≤ k → R ≡ regions_of w v n
    unfolding regions_of
    finding_done fits h =
        let z : k ≡ n = omega (arith, s.inside) in
        let none : drop n R₀ ≡ [] = rw fits (drop-length R₀) in
        s.same ∙ rw (z, none, append-nil)
