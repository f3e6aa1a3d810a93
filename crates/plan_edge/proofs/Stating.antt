-- What becomes of each change: what each test tells, and a turn of each loop.
-- Assumes nothing.
use mathlib.Core.Path.{◌≡◌, refl, sym, ap, ◌∙◌}
use mathlib.Core.Bool.{Bool, true, false, cond}
use mathlib.Core.List.{List, ◌++◌}
use Prim.Native.Nat.{ℕ, zero, suc, ◌+◌, ◌-◌, ◌*◌, ◌^◌, ◌≤◌, ◌<◌}
use native.Mathlib.Nat.{zero-add, sub-zero}
use native.Mathlib.Numerals.{add-one}
use native.Mathlib.Omega.{arith}
use lib.ListN.{length, get_or, set, drop, take-append-drop}
use lib.Seq.{drop-drop, get_or-drop, get_or-set_other}
use lib.Dec.{eqb}
use borrow.Author.Tests.{eq-eqb, ne_eqb}
use Rattle.definition.specs.Planning.{Fate, own, dependent, discarded}
use Rattle.definition_laws.specs.Basics.{up_from}
use Rattle.record_changes.specs.ChangeRow.{row_of, rows_of, fate_of, owner_of}
use Rattle.record_changes.specs.ChangeRowLaws.{row_at, rows_words, rows_to, rows_same, rows_written}
use Rattle.plan_changed_region.specs.Stacks.{stated, stated_row, stated_before, stated_after}
use Rattle.plan_edge.specs.Rule.{region_depth, regions_of, is_discarded, fate_within, fate_at, fated_at, fated_rows, edge_rows}
use Rattle.definition_laws.specs.Basics.{up_more}

-- ── Regions one around another ──────────────────────────────────────────────────────────────────────────────

-- what is asked of the change at k is to be told by the change at `at`, which i regions are around
pub record Following (v R : List ℕ) (most k at i : ℕ) : Type 0 where
  pub inside : i ≤ most
  pub low : at < 2 ^ 32
  pub same : is_discarded v R (most - i) at ≡ is_discarded v R most k

module _ (v R : List ℕ) (most k : ℕ) where
  pub following_start : k < 2 ^ 32 → Following v R most k k 0
  following_start h = record { inside = omega arith; low = h; same = rw (sub-zero most) }

  module _ {at i : ℕ} (s : Following v R most k at i) where
    pub following_done : most ≤ i → false ≡ is_discarded v R most k
    unfolding is_discarded
    following_done h = let z : most - i ≡ 0 = omega arith in ap (λ (m : ℕ). is_discarded v R m at) (sym z) ∙ s.same

    module _ (h : i < most) (p : ℕ) (e : p ≡ get_or R at 0) where
      opens : is_discarded v R most k ≡ cond (eqb p 0) false (cond (eqb (row_at v (p - 1)).region 2) (is_discarded v R (most - (i + 1)) (p - 1)) true)
      unfolding is_discarded
      opens = let z : most - i ≡ suc (most - (i + 1)) = omega arith in sym s.same ∙ (ap (λ (m : ℕ). is_discarded v R m at) z ∙ rw e)

      pub none_around : p < 1 → false ≡ is_discarded v R most k
      none_around l = let z : p ≡ 0 = omega arith in rw (opens, z)

      module _ {j : ℕ} (l : 1 ≤ p) (q : j ≡ p - 1) (g : ℕ) (f : g ≡ get_or (drop (14 * j) v) 10 0) where
        kind : (row_at v j).region ≡ g
        unfolding row_at row_of
        kind = sym f

        around : is_discarded v R most k ≡ cond (eqb g 2) (is_discarded v R (most - (i + 1)) j) true
        around = opens ∙ rw (ne_eqb p 0 (λ z. omega arith), ← q, ap (λ (x : ℕ). eqb x 2) kind)

        pub discards : (g ≡ 2 → ⊥) → true ≡ is_discarded v R most k
        discards n = rw (around, ne_eqb g 2 n)

        pub following_next : g ≡ 2 → p < 2 ^ 32 → Following v R most k j (i + 1)
        following_next n b = record { inside = omega arith; low = omega arith; same = rw (around, eq-eqb g 2 n) }

-- ── A fate ──────────────────────────────────────────────────────────────────────────────────────────────────

module _ (w v R : List ℕ) (k p : ℕ) (e : p ≡ get_or R k 0) where
  fate_is : fate_at w v R k ≡ cond (eqb p 0) own (cond (is_discarded v R (suc (region_depth w (row_at v k))) k) (discarded (p - 1)) (dependent (p - 1)))
  unfolding fate_at fate_within
  fate_is = rw e

  pub own_fate : p ≡ 0 → 0 ≡ fate_of (fate_at w v R k)
  unfolding fate_of
  own_fate z = rw (fate_is, z)

  module _ (z : p ≡ 0 → ⊥) (d : ℕ) (f : d ≡ region_depth w (row_at v k)) (r : Bool) (g : r ≡ is_discarded v R (d + 1) k) where
    told : is_discarded v R (suc (region_depth w (row_at v k))) k ≡ r
    told = rw (← f, ← add-one d) (sym g)

    pub discarded_fate : r ≡ true → 2 ≡ fate_of (fate_at w v R k)
    unfolding fate_of
    discarded_fate q = rw (fate_is, ne_eqb p 0 z, told, q)

    pub dependent_fate : r ≡ false → 1 ≡ fate_of (fate_at w v R k)
    unfolding fate_of
    dependent_fate q = rw (fate_is, ne_eqb p 0 z, told, q)

  owner_is : owner_of (fate_at w v R k) ≡ p - 1
  unfolding owner_of
  owner_is = rw fate_is (go p (is_discarded v R (suc (region_depth w (row_at v k))) k))
    where
      go : (p : ℕ) (b : Bool) → owner_of (cond (eqb p 0) own (cond b (discarded (p - 1)) (dependent (p - 1)))) ≡ p - 1
      go zero b = refl
      go (suc p) true = rw (ne_eqb (suc p) 0 (λ z. omega arith))
      go (suc p) false = rw (ne_eqb (suc p) 0 (λ z. omega arith))

  pub stated_by : (f o : ℕ) → f ≡ fate_of (fate_at w v R k) → o ≡ p - 1 → set (set v (14 * k + 11) f) (14 * k + 12) o ≡ stated v k (fate_at w v R k)
  unfolding stated
  stated_by f o a b = rw (a, b, owner_is)

-- ── Fates go by the region words alone ──────────────────────────────────────────────────────────────────────

module _ (v u R S : List ℕ) (a : (j : ℕ) → (row_at v j).region ≡ (row_at u j).region) (b : (j : ℕ) → get_or R j 0 ≡ get_or S j 0) where
  discarded_same : (m k : ℕ) → is_discarded v R m k ≡ is_discarded u S m k
  unfolding is_discarded
  discarded_same zero k = refl
  discarded_same (suc m) k = rw (b k, ap (λ (x : ℕ). eqb x 2) (a (get_or S k 0 - 1)), discarded_same m (get_or S k 0 - 1))

  fate_same : (w : List ℕ) (k : ℕ) → row_at v k ≡ row_at u k → fate_at w v R k ≡ fate_at w u S k
  unfolding fate_at fate_within
  fate_same w k e = rw (b k, e, discarded_same (suc (region_depth w (row_at u k))) k)

-- ── All fates ───────────────────────────────────────────────────────────────────────────────────────────────

row_same : (v u : List ℕ) (k : ℕ) → drop (14 * k) v ≡ drop (14 * k) u → row_at v k ≡ row_at u k
unfolding row_at
row_same v u k e = ap row_of e

stated_region : (v : List ℕ) (k : ℕ) (f : Fate) (j : ℕ) → (row_at (stated v k f) j).region ≡ (row_at v j).region
unfolding row_at row_of stated
stated_region v k f j =
    get_or-drop (14 * j) (stated v k f) 10 0
    ∙ (get_or-set_other (set v (14 * k + 11) (fate_of f)) (14 * k + 12) (14 * j + 10) (owner_of f) 0 (λ z. omega arith)
    ∙ (get_or-set_other v (14 * k + 11) (14 * j + 10) (fate_of f) 0 (λ z. omega arith) ∙ sym (get_or-drop (14 * j) v 10 0)))

-- of the n rows in v₀ those before place k have their fates in v
pub record Stating (w v₀ R : List ℕ) (n : ℕ) (v : List ℕ) (k : ℕ) : Type 0 where
  pub inside : k ≤ n
  pub long : length v ≡ length v₀
  pub passed : rows_of k v ≡ fated_rows w v₀ R k
  pub rest : drop (14 * k) v ≡ drop (14 * k) v₀
  pub kinds : (j : ℕ) → (row_at v j).region ≡ (row_at v₀ j).region

module _ (w v₀ R : List ℕ) (n : ℕ) where
  pub stating_start : Stating w v₀ R n v₀ 0
  unfolding fated_rows up_from rows_of
  stating_start = record { inside = omega arith; long = refl; passed = refl; rest = refl; kinds = λ j. refl }

  module _ {v : List ℕ} {k : ℕ} (s : Stating w v₀ R n v k) (fits : 14 * n ≤ length v₀) where
    pub stating_next : k < n → (v' : List ℕ) → length v' ≡ length v → v' ≡ stated v k (fate_at w v R k) → Stating w v₀ R n v' (k + 1)
    unfolding fated_rows
    stating_next h v' q e = rw (add-one k, e) (record {
      inside = omega arith;
      long = ap length (sym e) ∙ (q ∙ s.long);
      passed = rows_to N k ∙ rw (rows_same N v k (stated_before v k f room), s.passed, here, up_more (fated_at w v₀ R) 0 k, zero-add k);
      rest = stated_after v k f room ∙ behind;
      kinds = λ j. stated_region v k f j ∙ s.kinds j;
    })
      where
        f : Fate
        f = fate_at w v R k

        N : List ℕ
        N = stated v k (fate_at w v R k)

        room : 14 * k + 14 ≤ length v
        room = omega (arith, s.long)

        at : row_at v k ≡ row_at v₀ k
        at = row_same v v₀ k s.rest

        here : row_at N k ≡ fated_at w v₀ R k
        here = stated_row v k f room ∙ rw (fate_same v v₀ R R s.kinds (λ j. refl) w k at, at)

        behind : drop (14 * suc k) v ≡ drop (14 * suc k) v₀
        behind = let z : 14 * suc k ≡ 14 * k + 14 = omega arith in rw (z, ← drop-drop 14 (14 * k) v, ← drop-drop 14 (14 * k) v₀, s.rest)

    pub stating_done : n ≤ k → v ≡ rows_words (fated_rows w v₀ R n) ++ drop (14 * n) v₀
    stating_done h =
        let z : k ≡ n = omega (arith, s.inside) in
        sym (take-append-drop (14 * n) v) ∙ rw (← z, ← s.passed, ← s.rest, rows_written k v (omega (arith, s.long)))

-- ── The rule ────────────────────────────────────────────────────────────────────────────────────────────────

pub all_stated : (w v : List ℕ) (n : ℕ) (R v' : List ℕ) → R ≡ regions_of w v n → length R ≡ n → v' ≡ rows_words (fated_rows w v R (length R)) ++ drop (14 * length R) v → v' ≡ rows_words (edge_rows w n v) ++ drop (14 * n) v
unfolding edge_rows
all_stated w v n R v' e l q = q ∙ rw (l, e)
