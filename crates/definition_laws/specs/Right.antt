-- Calls that line 6 accepts, and the changes made of them: what is known of their targets.
-- Assumes nothing.
use Rattle.std.specs.Prelude.{◌≡◌, Bool, cond, not, ◌&&◌, ◌||◌, ℕ, zero, suc, ◌-◌, ◌≤◌, ◌<◌, ltb, eqb}
use Rattle.std.proofs.Math.Path.{refl}
use Rattle.std.proofs.Common.{ap}
use Rattle.std.proofs.Math.Bool.{true, false}
use mathlib.Core.List.{List, [], ◌∷◌, head_d, tail}
use Rattle.std.proofs.Math.Option.{Option, none, some}
use native.Mathlib.Omega.{arith}
use Rattle.std.proofs.Math.Dec.{leb}
use Rattle.std.proofs.Math.ListN.{length}
use borrow.Author.Tests.{ltb-false, leb-false, eqb-true, eq-eqb, ne_eqb, not-false}
use Rattle.orders.specs.Lists.{All}
use Rattle.orders.specs.ListLaws.{bool_absurd, All-map}
pub use Rattle.orders.specs.ListLaws.{either_false as neither, none_passes}
use Rattle.definition.specs.Basics.{any, among}
use Rattle.definition.specs.Elements.{Table, node?, root?, parent, child}
use Rattle.definition.specs.Refusals.{Call, wrong_count, most_listed, too_many, lists_too_many, same_parent, wrong_run, misplaced, ruled_start, wrong_call}
use Rattle.definition.specs.Recording.{first_child, after, Change, insert, replace, delete, replace_with_many, replace_all, run, change, call}
use Rattle.definition.specs.Running.{news}

-- ── What line 6 tells of a call ─────────────────────────────────────────────────────────────────────────────

-- a call that line 6 does not refuse: nothing that it names is wrong
pub record Judged (T : Table) (c : Call) : Type 0 where
  pub known : ltb 6 c.operation ≡ false
  pub count : wrong_count c.operation (length c.listed) ≡ false
  pub within : any (λ e. leb (length T) e) (c.target ∷ c.listed) ≡ false
  pub is_node : (eqb c.operation 0 && not (node? T c.target)) ≡ false
  pub no_root : (among (1 ∷ 3 ∷ 4 ∷ 5 ∷ []) c.operation && root? T c.target) ≡ false
  pub by_node : (eqb c.operation 2 && root? T c.target && not (node? T (head_d c.listed 0))) ≡ false
  pub run : (eqb c.operation 5 && wrong_run T c.target (head_d c.listed 0)) ≡ false
  pub editor : (eqb c.operation 6 && not (eqb c.target 0)) ≡ false
  pub unruled : ruled_start c.operation c.rule ≡ false

pub judged : (T : Table) (c : Call) → wrong_call T c ≡ false → Judged T c
unfolding wrong_call misplaced
judged T c e =
    let (e, n) = neither _ _ e in
    let (e, m) = neither _ _ e in
    let (e, b) = neither _ _ e in
    let (z, a) = neither _ _ e in
    let (m, i) = neither _ _ m in
    let (m, h) = neither _ _ m in
    let (m, g) = neither _ _ m in
    let (k, f) = neither _ _ m in
    record { known = z; count = a; within = b; is_node = k; no_root = f; by_node = g; run = h; editor = i; unruled = n }

pub unjudged : (T : Table) (c : Call) → Judged T c → wrong_call T c ≡ false
unfolding wrong_call misplaced
unjudged T c j = rw (j.known, j.count, j.within, j.is_node, j.no_root, j.by_node, j.run, j.editor, j.unruled)

pub below_E : (T : Table) (l : List ℕ) → any (λ e. leb (length T) e) l ≡ false → All (λ e. e < length T) l
below_E T l e = All-map (λ x h. leb-false (length T) x h) l (none_passes (λ x. leb (length T) x) l e)

pub same_parent_lem : (p q : Option ℕ) → same_parent p q ≡ true → p ≡ q
unfolding same_parent
same_parent_lem none none e = refl
same_parent_lem none (some q) e = bool_absurd e refl
same_parent_lem (some p) none e = bool_absurd e refl
same_parent_lem (some p) (some q) e = ap {B = Option ℕ} some (eqb-true p q e)

pub parent_same : (p : Option ℕ) → same_parent p p ≡ true
unfolding same_parent
parent_same none = refl
parent_same (some p) = eq-eqb p p refl

-- "a run whose ends have different parents or are reversed" is refused
pub right_run : (T : Table) (x y : ℕ) → wrong_run T x y ≡ false → (parent T x ≡ parent T y) × (child T x ≤ child T y)
unfolding wrong_run
right_run T x y e =
    let (a, b) = neither (not (same_parent (parent T x) (parent T y))) (ltb (child T y) (child T x)) e in
    (same_parent_lem (parent T x) (parent T y) (not-false _ a), ltb-false (child T y) (child T x) b)

-- 2 lists one element, 3 none
count_one : (n : ℕ) → wrong_count 2 n ≡ false → n ≡ 1
unfolding wrong_count among any
count_one n e = eqb-true n 1 (not-false (eqb n 1) (neither (not (eqb n 1)) false e).0)

count_none : (n : ℕ) → wrong_count 3 n ≡ false → n ≤ 0
unfolding wrong_count among any
count_none n e = ltb-false 0 n (neither (ltb 0 n) false (neither (ltb 0 n || false) false e).0).0

-- ── Changes ─────────────────────────────────────────────────────────────────────────────────────────────────

-- a change, recorded or rewritten, that line 6 would not refuse
abbrev pub Right : Table → Change → Type 0
Right T c = wrong_call T (call c) ≡ false

-- where its targets stand
abbrev pub Sits : Table → Change → Type 0
Sits T (insert first_child x l) = (x < length T) × (node? T x ≡ true)
Sits T (insert after x l) = (x < length T) × (root? T x ≡ false)
Sits T (replace x y) = x < length T
Sits T (delete x) = (x < length T) × (root? T x ≡ false)
Sits T (replace_with_many x l) = (x < length T) × (root? T x ≡ false)
Sits T (replace_all x y l) = (x < length T) × (y < length T) × (root? T x ≡ false) × (parent T x ≡ parent T y) × (child T x ≤ child T y)

module _ (T : Table) where
  pub right_sits : (c : Change) → Right T c → Sits T c
  unfolding call among any head_d
  right_sits (insert first_child x l) e = let j = judged T _ e in ((below_E T (x ∷ l) j.within).0, not-false _ j.is_node)
  right_sits (insert after x l) e = let j = judged T _ e in ((below_E T (x ∷ l) j.within).0, j.no_root)
  right_sits (replace x y) e = let j = judged T _ e in (below_E T (x ∷ y ∷ []) j.within).0
  right_sits (delete x) e = let j = judged T _ e in ((below_E T (x ∷ []) j.within).0, j.no_root)
  right_sits (replace_with_many x l) e = let j = judged T _ e in ((below_E T (x ∷ l) j.within).0, j.no_root)
  right_sits (replace_all x y l) e =
      let j = judged T _ e in
      let w = below_E T (x ∷ y ∷ l) j.within in
      let r = right_run T x y j.run in
      (w.0, w.1.0, j.no_root, r.0, r.1)

  -- what it lists is below E
  pub right_news : (c : Change) → Right T c → All (λ e. e < length T) (news c)
  unfolding call news
  right_news (insert first_child x l) e = (below_E T (x ∷ l) (judged T _ e).within).1
  right_news (insert after x l) e = (below_E T (x ∷ l) (judged T _ e).within).1
  right_news (replace x y) e = (below_E T (x ∷ y ∷ []) (judged T _ e).within).1
  right_news (delete x) e = tt
  right_news (replace_with_many x l) e = (below_E T (x ∷ l) (judged T _ e).within).1
  right_news (replace_all x y l) e = (below_E T (x ∷ y ∷ l) (judged T _ e).within).1.1

  -- ── From calls to changes ──

  -- a run of one is as right as the run that was asked for
  one_right : (x y : ℕ) (l : List ℕ) → {n : ℕ} → Judged T (record { operation = 5; target = x; listed = y ∷ l; rule = n }) → Right T (replace_with_many x l)
  unfolding call among any wrong_count ruled_start
  one_right x y l {n} j =
      let (a, b) = neither (leb (length T) x) (leb (length T) y || any (λ e. leb (length T) e) l) j.within in
      let (b, c) = neither (leb (length T) y) (any (λ e. leb (length T) e) l) b in
      unjudged T (record { operation = 4; target = x; listed = l; rule = 0 })
      (record { known = refl; count = refl; within = rw (a, c); is_node = refl; no_root = j.no_root; by_node = refl; run = refl; editor = refl; unruled = refl })

  -- a call of another operation than 6 is as right by any rule
  any_rule : (op x : ℕ) (l : List ℕ) (n m : ℕ) → eqb op 6 ≡ false → Judged T (record { operation = op; target = x; listed = l; rule = n }) → wrong_call T (record { operation = op; target = x; listed = l; rule = m }) ≡ false
  unfolding ruled_start
  any_rule op x l n m h j =
      unjudged T (record { operation = op; target = x; listed = l; rule = m })
      (record { known = j.known; count = j.count; within = j.within; is_node = j.is_node; no_root = j.no_root; by_node = j.by_node; run = j.run; editor = j.editor; unruled = rw (h) refl })

  -- a change recorded for a call that is not refused
  pub change_right : (c : Call) → wrong_call T c ≡ false → eqb c.operation 6 ≡ false → Right T (change c)
  unfolding change call run head_d among any wrong_count
  change_right c e h = let j = judged T c e in go c.operation c.target c.listed (any_rule c.operation c.target c.listed c.rule 0 h j) j h
    where
      either : (x y : ℕ) (l : List ℕ) {n : ℕ} → wrong_call T (record { operation = 5; target = x; listed = y ∷ l; rule = 0 }) ≡ false → Judged T (record { operation = 5; target = x; listed = y ∷ l; rule = n })
          → (b : Bool) → Right T (cond b (replace_with_many x l) (replace_all x y l))
      either x y l e j true = one_right x y l j
      either x y l e j false = e

      go : (op x : ℕ) (l : List ℕ) {n : ℕ} → wrong_call T (record { operation = op; target = x; listed = l; rule = 0 }) ≡ false → Judged T (record { operation = op; target = x; listed = l; rule = n }) → eqb op 6 ≡ false
          → Right T (change (record { operation = op; target = x; listed = l; rule = n }))
      go zero x l e j h = e
      go (suc zero) x l e j h = e
      go (suc (suc zero)) x [] e j h = bool_absurd refl j.count
      go (suc (suc zero)) x (y ∷ []) e j h = e
      go (suc (suc zero)) x (y ∷ z ∷ l) e j h = absurd (omega (arith, count_one (suc (suc (length l))) j.count))
      go (suc (suc (suc zero))) x [] e j h = e
      go (suc (suc (suc zero))) x (y ∷ l) e j h = absurd (omega (arith, count_none (suc (length l)) j.count))
      go (suc (suc (suc (suc zero)))) x l e j h = e
      go (suc (suc (suc (suc (suc zero))))) x [] e j h = bool_absurd refl j.count
      go (suc (suc (suc (suc (suc zero))))) x (y ∷ l) e j h = either x y l e j (eqb x y)
      go (suc (suc (suc (suc (suc (suc zero)))))) x l e j h = bool_absurd refl h
      go (suc (suc (suc (suc (suc (suc (suc op))))))) x l e j h = absurd (omega (arith, ltb-false 6 (suc (suc (suc (suc (suc (suc (suc op))))))) j.known))

  -- it lists no more than the call
  pub change_lists : (c : Call) → wrong_call T c ≡ false → length (news (change c)) ≤ length c.listed
  unfolding change run head_d news
  change_lists c e = go c.operation c.target c.listed c.rule (judged T c e)
    where
      either : (x y : ℕ) (l : List ℕ) (b : Bool) → length (news (cond b (replace_with_many x (tail l)) (replace_all x y (tail l)))) ≤ length l
      either x y [] true = omega arith
      either x y [] false = omega arith
      either x y (z ∷ l) true = omega arith
      either x y (z ∷ l) false = omega arith

      other : (op x : ℕ) (l : List ℕ) (n : ℕ) → eqb op 0 ≡ false → eqb op 1 ≡ false → eqb op 2 ≡ false → eqb op 3 ≡ false → eqb op 4 ≡ false → length (news (change (record { operation = op; target = x; listed = l; rule = n }))) ≤ length l
      other op x l n a b c d e = rw (a, b, c, d, e) (either x (head_d l 0) l (eqb x (head_d l 0)))

      go : (op x : ℕ) (l : List ℕ) (m : ℕ) → Judged T (record { operation = op; target = x; listed = l; rule = m }) → length (news (change (record { operation = op; target = x; listed = l; rule = m }))) ≤ length l
      go zero x l m j = omega arith
      go (suc zero) x l m j = omega arith
      go (suc (suc zero)) x l m j = omega (arith, count_one (length l) j.count)
      go (suc (suc (suc zero))) x l m j = omega arith
      go (suc (suc (suc (suc zero)))) x l m j = omega arith
      go (suc (suc (suc (suc (suc op))))) x l m j =
          let n = suc (suc (suc (suc (suc op)))) in
          other n x l m (ne_eqb n 0 (omega arith)) (ne_eqb n 1 (omega arith)) (ne_eqb n 2 (omega arith)) (ne_eqb n 3 (omega arith)) (ne_eqb n 4 (omega arith))

-- a change lists no more than 41 elements, if 16 does not refuse its call
pub change_few : (c : Call) → lists_too_many c ≡ false → length (news (change c)) ≤ most_listed
unfolding lists_too_many too_many change run head_d news
change_few c e = go c.operation c.target c.listed c.rule e
  where
    few : (x y : ℕ) (l : List ℕ) (b : Bool) → length l - 1 ≤ most_listed → length (news (cond b (replace_with_many x (tail l)) (replace_all x y (tail l)))) ≤ most_listed
    few x y [] true h = omega arith
    few x y [] false h = omega arith
    few x y (z ∷ l) true h = omega arith
    few x y (z ∷ l) false h = omega arith

    go : (op x : ℕ) (l : List ℕ) (m : ℕ) → too_many op (length l) ≡ false → length (news (change (record { operation = op; target = x; listed = l; rule = m }))) ≤ most_listed
    go zero x l m e = ltb-false most_listed (length l) e
    go (suc zero) x l m e = ltb-false most_listed (length l) e
    go (suc (suc zero)) x l m e = omega arith
    go (suc (suc (suc zero))) x l m e = omega arith
    go (suc (suc (suc (suc zero)))) x l m e = ltb-false most_listed (length l) e
    go (suc (suc (suc (suc (suc zero))))) x l m e = few x (head_d l 0) l (eqb x (head_d l 0)) (ltb-false most_listed (length l - 1) e)
    go (suc (suc (suc (suc (suc (suc op)))))) x l m e =
        let n = suc (suc (suc (suc (suc (suc op))))) in
        rw (ne_eqb n 0 (omega arith), ne_eqb n 1 (omega arith), ne_eqb n 2 (omega arith), ne_eqb n 3 (omega arith), ne_eqb n 4 (omega arith))
        (few x (head_d l 0) l (eqb x (head_d l 0)) (omega (arith, ltb-false most_listed (length l) (rw (ne_eqb n 5 (omega arith)) at e))))
