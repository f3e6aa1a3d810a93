-- What each test and each turn tells of regions and fates.
-- Assumes nothing.
use mathlib.Core.Path.{◌≡◌, refl, sym, ap, ◌∙◌}
use mathlib.Core.Bool.{Bool, true, false, cond, not, ◌&&◌}
use mathlib.Core.List.{List, [], ◌∷◌, ◌++◌, map, append_assoc, append-nil}
use Prim.Native.Nat.{ℕ, zero, suc, ◌+◌, ◌-◌, ◌*◌, ◌≤◌, ◌<◌}
use native.Mathlib.Nat.{sub-zero, sub_self}
use native.Mathlib.Numerals.{add-one}
use native.Mathlib.Omega.{arith}
use lib.ListN.{length, get_or, set, drop, replicate, length-set, take-append-drop}
use lib.Seq.{set_out, drop-drop}
use Rattle.std.specs.Prelude.{Some, None}
use Rattle.std.specs.Option.{SomeIff}
use Rattle.std.specs.Prelude.{Option as Maybe}
use Rattle.plan_sort.specs.Lists.{one_past}
use lib.Dec.{leb, eqb}
use borrow.Author.Tests.{eq-eqb, ne_eqb, le-leb, lt-leb}
use Rattle.orders.specs.Lists.{All}
use Rattle.orders.specs.ListLaws.{All-getD}
use Rattle.definition.specs.Planning.{own, dependent, discarded, is_discarded, fate}
use Rattle.record_changes.specs.ChangeRow.{ChangeRow, row_of, rows_of, fate_of, owner_of}
use Rattle.record_changes.specs.ChangeRowLaws.{row_at, rows_words, rows_to, rows_same, rows_written}
use Rattle.plan_sort.specs.Rows.{row_fate}
use Rattle.plan_changed_region.specs.Fates.{row_inner, row_region, rows_fates, planned_rows}
use Rattle.plan_changed_region.specs.Stacks.{outer, region_at, stack_to, contains, enclosing, Outward, stated, stack_last, stack_lift, enclosing_here, enclosing_lift, enclosing_most}
use Rattle.plan_changed_region.specs.Steps.{region_around, next_rows, next_tops, next_before, next_rest, fates_next, outward_next, tops_next}

-- ── Ranges ──────────────────────────────────────────────────────────────────────────────────────────────────

module _ (w : List ℕ) (j a b x : ℕ) (f : x ≡ get_or (drop (14 * j) w) 6 0) where
  pub starts_later : a < x → false ≡ contains (row_at w j) a b
  unfolding contains row_at row_of
  starts_later h = rw (← f, lt-leb x a h)

  pub starts_before : x ≤ a → (y : ℕ) → y ≡ get_or (drop (14 * j) w) 7 0 → leb b y ≡ contains (row_at w j) a b
  unfolding contains row_at row_of
  starts_before h y g = rw (← f, le-leb x a h, ← g)

-- ── The region around a change ──────────────────────────────────────────────────────────────────────────────

module _ (w : List ℕ) (j x : ℕ) (f : x ≡ get_or (drop (14 * j) w) 11 0) where
  pub outer_none : x ≡ 0 → 0 ≡ outer (row_at w j)
  unfolding outer row_at row_of
  outer_none e = rw (← f, e)

  pub outer_some : (x ≡ 0 → ⊥) → (y : ℕ) → y ≡ get_or (drop (14 * j) w) 12 0 → suc y ≡ outer (row_at w j)
  unfolding outer row_at row_of
  outer_some n y g = rw (← f, ne_eqb x 0 n, ← g)

-- what is sought from `top` is to be found from p on
pub record Popping (a b : ℕ) (w : List ℕ) (top p : ℕ) : Type 0 where
  pub inside : p ≤ top
  pub same : enclosing a b w p p ≡ enclosing a b w top top

pub popping_start : (a b : ℕ) (w : List ℕ) (top : ℕ) → Popping a b w top top
popping_start a b w top = record { inside = omega arith; same = refl }

module _ {a b : ℕ} {w : List ℕ} {top : ℕ} {g : Maybe ℕ} (v : Popping a b w top (one_past g)) (out : Outward w top) {j : ℕ} (is : g ≡ Some j) (r : Bool) (e : r ≡ contains (row_at w j) a b) where
  here : Popping a b w top (suc j)
  here = rw is at v

  last : enclosing a b w (suc j) (suc j) ≡ cond r (suc j) (enclosing a b w j (outer (row_at w j)))
  last = enclosing_here a b w j ∙ rw (← e)

  pub popping_found : r ≡ true → one_past g ≡ enclosing a b w top top
  popping_found t = rw is (sym (rw t at last) ∙ here.same)

  module _ (t : r ≡ false) (q : ℕ) (u : q ≡ outer (row_at w j)) where
    pub popping_falls : q < one_past g
    unfolding Outward
    popping_falls = rw is (omega (arith, out j (omega (arith, here.inside)), u))

    pub popping_next : Popping a b w top q
    unfolding Outward
    popping_next =
        let low = out j (omega (arith, here.inside)) in
        record {
          inside = omega (arith, here.inside);
          same = rw u (sym (enclosing_lift _ _ w j (outer (row_at w j)) low) ∙ (sym (rw t at last) ∙ here.same));
        }

pub popping_none : {a b : ℕ} {w : List ℕ} {top p : ℕ} → Popping a b w top p → p ≤ 0 → 0 ≡ enclosing a b w top top
unfolding enclosing
popping_none {p = p} v h = let e : p ≡ 0 = omega arith in rw (← v.same, e)

-- ── Fates ───────────────────────────────────────────────────────────────────────────────────────────────────

pub fate_none : (w : List ℕ) (p : ℕ) → p ≡ 0 → 0 ≡ fate_of (fate (stack_to w p p))
unfolding fate fate_of stack_to
fate_none w p e = rw e

-- which of the two a region makes of inner changes
word_of : (j x y : ℕ) (r : ChangeRow) → x ≡ r.fate → y ≡ r.region → fate_of (row_inner j (row_fate r) r) ≡ cond (leb x 1 && eqb y 2) 1 2
unfolding row_inner row_fate fate_of is_discarded
word_of j x y r f g = rw (f, g, undiscarded r.fate r.owner) (go (leb r.fate 1 && eqb r.region 2))
  where
    undiscarded : (x k : ℕ) → not (is_discarded (cond (eqb x 0) own (cond (eqb x 1) (dependent k) (discarded k)))) ≡ leb x 1
    undiscarded zero k = refl
    undiscarded (suc zero) k = refl
    undiscarded (suc (suc x)) k = rw (ne_eqb (suc (suc x)) 0 (λ e. omega arith), ne_eqb (suc (suc x)) 1 (λ e. omega arith), lt-leb (suc (suc x)) 1 (omega arith))

    go : (b : Bool) → fate_of (cond b (dependent j) (discarded j)) ≡ cond b 1 2
    go true = refl
    go false = refl

module _ (w : List ℕ) (p : ℕ) (n : p ≡ 0 → ⊥) (x : ℕ) (f : x ≡ get_or (drop (14 * (p - 1)) w) 11 0) where
  fate_at : (y : ℕ) → y ≡ get_or (drop (14 * (p - 1)) w) 10 0 → fate_of (fate (stack_to w p p)) ≡ cond (leb x 1 && eqb y 2) 1 2
  unfolding fate region_at row_region row_at row_of
  fate_at y g =
      let s : p ≡ suc (p - 1) = omega arith in
      ap (λ (i : ℕ). fate_of (fate (stack_to w i i))) s ∙ rw (stack_last w (p - 1)) (word_of (p - 1) x y (row_at w (p - 1)) f g)

  pub fate_under_discarded : 1 < x → 2 ≡ fate_of (fate (stack_to w p p))
  fate_under_discarded h = sym (rw (lt-leb x 1 h) at (fate_at (get_or (drop (14 * (p - 1)) w) 10 0) refl))

  module _ (h : x ≤ 1) (y : ℕ) (g : y ≡ get_or (drop (14 * (p - 1)) w) 10 0) where
    pub fate_dependent : y ≡ 2 → 1 ≡ fate_of (fate (stack_to w p p))
    fate_dependent e = sym (rw (le-leb x 1 h, eq-eqb y 2 e) at (fate_at y g))

    pub fate_discarded : (y ≡ 2 → ⊥) → 2 ≡ fate_of (fate (stack_to w p p))
    fate_discarded e = sym (rw (le-leb x 1 h, ne_eqb y 2 e) at (fate_at y g))

-- the change that a fate names
owner_at : (w : List ℕ) (p : ℕ) → owner_of (fate (stack_to w p p)) ≡ p - 1
unfolding fate owner_of region_at row_region row_inner stack_to
owner_at w zero = refl
owner_at w (suc j) = rw (stack_last w j) (go (not (is_discarded (row_fate (row_at w j))) && eqb (row_at w j).region 2) ∙ omega arith)
  where
    go : (b : Bool) → owner_of (cond b (dependent j) (discarded j)) ≡ j
    go true = refl
    go false = refl

pub stated_by : (w : List ℕ) (k p f o : ℕ) → p ≤ k → f ≡ fate_of (fate (stack_to w p p)) → o ≡ p - 1 → set (set w (14 * k + 11) f) (14 * k + 12) o ≡ stated w k (fate (stack_to w k p))
unfolding stated
stated_by w k p f o h e q = rw (stack_lift w k p h, owner_at w p, e, q)

-- ── The last region of each tree ────────────────────────────────────────────────────────────────────────────

pub set_past : (tops : List ℕ) (t x : ℕ) → length tops ≤ t → tops ≡ set tops t x
set_past tops t x h = sym (set_out tops t x h)

module _ (w : List ℕ) (k p x : ℕ) (f : x ≡ get_or (drop (14 * k) w) 10 0) where
  pub last_around : x ≡ 0 → p ≡ cond (eqb (row_at w k).region 0) p (suc k)
  unfolding row_at row_of
  last_around e = rw (← f, e)

  pub last_itself : (x ≡ 0 → ⊥) → suc k ≡ cond (eqb (row_at w k).region 0) p (suc k)
  unfolding row_at row_of
  last_itself n = rw (← f, ne_eqb x 0 n)

-- ── One change ──────────────────────────────────────────────────────────────────────────────────────────────

-- a word, index + 1, read as an option
pub past_word : (o : Maybe ℕ) {m : ℕ} → SomeIff o (1 ≤ m) (m - 1) → (l : List ℕ) (t : ℕ) → m ≡ get_or l t 0 → one_past o ≡ get_or l t 0
past_word None n l t e = omega (arith, n, e)
past_word (Some j) n l t e = omega (arith, n.0, n.1, e)

module _ (w tops : List ℕ) (k t x : ℕ) (low : All (λ q. q ≤ k) tops) (e : x ≡ get_or tops t 0) where
  top_low : x ≤ k
  top_low = rw e (All-getD (λ p. p ≤ k) 0 (omega arith) tops t low)

  pub top_bound : k < 256 → x ≤ 256
  top_bound h = omega (arith, top_low)

  pub top_outward : Outward w k → Outward w x
  unfolding Outward
  top_outward out j b = out j (omega (arith, top_low))

  pub region_found : (a b r : ℕ) → t ≡ get_or (drop (14 * k) w) 5 0 → a ≡ get_or (drop (14 * k) w) 6 0 → b ≡ get_or (drop (14 * k) w) 7 0 → r ≡ enclosing a b w x x → r ≡ region_around w tops k
  unfolding region_around row_at row_of
  region_found a b r u f g s = s ∙ (sym (enclosing_lift a b w k x top_low) ∙ rw (e, u, f, g))

  pub region_low : (a b r : ℕ) → r ≡ enclosing a b w x x → r ≤ k
  region_low a b r s = rw s (omega (arith, top_low, enclosing_most a b w x x))

pub rows_next : (w tops : List ℕ) (k p : ℕ) (w' : List ℕ) → p ≡ region_around w tops k → w' ≡ stated w k (fate (stack_to w k p)) → w' ≡ next_rows w tops k
unfolding next_rows
rows_next w tops k p w' e s = rw (← e) s

pub tops_after : (w tops : List ℕ) (k p t l : ℕ) (tops' : List ℕ) → p ≡ region_around w tops k → t ≡ get_or (drop (14 * k) w) 5 0 → l ≡ cond (eqb (row_at w k).region 0) p (suc k) → tops' ≡ set tops t l → tops' ≡ next_tops w tops k
unfolding next_tops row_at row_of
tops_after w tops k p t l tops' e f q s = s ∙ rw (f, q, e)

-- ── All changes ─────────────────────────────────────────────────────────────────────────────────────────────

-- of the n rows in w₀ those before place k have their fates in w, and the stacks give the others'
pub record Planning (w₀ : List ℕ) (n : ℕ) (w tops : List ℕ) (k : ℕ) : Type 0 where
  pub inside : k ≤ n
  pub long : length w ≡ length w₀
  pub trees : length tops ≡ 16
  pub tail : drop (14 * n) w ≡ drop (14 * n) w₀
  pub outward : Outward w k
  pub low : All (λ q. q ≤ k) tops
  pub same : planned_rows (rows_of n w₀) ≡ rows_of k w ++ rows_fates k (map (stack_to w k) tops) (rows_of (n - k) (drop (14 * k) w))

pub planning_start : (w : List ℕ) (n : ℕ) → Planning w n w (replicate 16 0) 0
unfolding planned_rows Outward rows_of stack_to
planning_start w n = record {
  inside = omega arith;
  long = refl;
  trees = refl;
  tail = refl;
  outward = λ j b. absurd (omega arith);
  low = omega arith;
  same = rw (sub-zero n);
}

module _ {w₀ : List ℕ} {n : ℕ} {w tops : List ℕ} {k : ℕ} (v : Planning w₀ n w tops k) (a : 14 * n ≤ length w₀) where
  pub planning_next : (w' tops' : List ℕ) → k < n → length w' ≡ length w → w' ≡ next_rows w tops k → tops' ≡ next_tops w tops k → Planning w₀ n w' tops' (k + 1)
  unfolding next_tops
  planning_next w' tops' h q e f = rw (add-one k, f) (record {
    inside = omega arith;
    long = q ∙ v.long;
    trees = simp length-set v.trees;
    tail = rw e (rest ∙ v.tail);
    outward = rw e (outward_next w tops k room v.low v.outward);
    low = tops_next w tops k room v.low;
    same = v.same ∙ rw (e, passed, next_count) (ap {B = List ChangeRow} (λ rs. rows_of k w ++ rs) (fates_next w tops k room v.low (n - suc k)) ∙ sym (append_assoc (rows_of k w) (row_at N k ∷ []) later));
  })
    where
      N : List ℕ
      N = next_rows w tops k

      room : 14 * k + 14 ≤ length w
      room = omega (arith, v.long)

      later : List ChangeRow
      later = rows_fates (suc k) (map (stack_to N (suc k)) (next_tops w tops k)) (rows_of (n - suc k) (drop (14 * suc k) N))

      next_count : n - k ≡ suc (n - suc k)
      next_count = omega arith

      passed : rows_of (suc k) N ≡ rows_of k w ++ (row_at N k ∷ [])
      passed = rows_to N k ∙ rw (rows_same N w k (next_before w tops k room v.low))

      rest : drop (14 * n) N ≡ drop (14 * n) w
      rest =
          let m : ℕ = 14 * n - 14 * suc k in
          let c : 14 * n ≡ 14 * suc k + m = omega arith in
          rw (c, ← drop-drop m (14 * suc k) N, ← drop-drop m (14 * suc k) w, next_rest w tops k room v.low)

  pub planning_done : n ≤ k → w ≡ rows_words (planned_rows (rows_of n w₀)) ++ drop (14 * n) w₀
  unfolding rows_of rows_fates
  planning_done h =
      let e : k ≡ n = omega (arith, v.inside) in
      let s : planned_rows (rows_of n w₀) ≡ rows_of n w = v.same ∙ rw (e, sub_self n) (append-nil (rows_of n w)) in
      sym (take-append-drop (14 * n) w) ∙ rw (s, ← v.tail, rows_written n w (omega (arith, v.long)))
