-- "It accepts exactly if": the six clauses as statements, beside the tests that compute them.
-- Assumes nothing.
use Rattle.std.specs.Prelude.{◌≡◌, Bool, ◌&&◌, ◌||◌, ◌⊎◌, ◌↔◌, ℕ, ◌<◌, leb, ltb}
use Rattle.std.proofs.Math.Path.{refl}
use Rattle.std.proofs.Common.{sym, ap, ◌∙◌, subst, inl, inr, arith}
use Rattle.std.proofs.Math.Bool.{true, false, not, or-true}
use mathlib.Core.List.Memᴰ
use mathlib.Core.List.{List, [], ◌∷◌, map, zip, zip_with, ◌++◌, Memᴰ}
use Rattle.std.proofs.Math.Option.{Option, none, some}
use Rattle.std.proofs.Math.Dec.{eqb}
use Rattle.std.proofs.Math.ListN.{length}
use borrow.Author.Tests.{leb-false, eqb-true, eq-eqb, lt-ltb, ltb-true, not-true}
use Rattle.orders.specs.Lists.{any, Pairs}
use Rattle.orders.specs.ListLaws.{bool_absurd, both_true, either_true, either_false, any_over, any_mem, mem_any, none_passes, All-map, All-mem}
use Rattle.orders.specs.Tree.{Tree, Path}
use Rattle.definition.specs.Basics.{Answer, gives, ◌>>=◌, refuse, or_refuse, is_some, among, numbered}
use Rattle.definition.specs.Elements.{Table, table, row, node?, parent, child, place_below, spelled}
use Rattle.definition.specs.Refusals.{same_parent}
use Rattle.definition_laws.specs.Answers.{gives_inj, given, not_wrong, is_there}
use Rattle.check_laws.specs.Check.{Claims, too_big, unequal, alone, names_none, every, is_pair, same_bytes, text_at, no_repeat, are_pair, earlier, just_one, roots_paired, none_twice, pairs_alike, parents_paired, orders_agree, is_paired, is_covered, all_accounted, accepts, checked}
use Rattle.check_laws.specs.ListLaws.{every_all, mem_map, map_mem, numbers_of, within_numbers, every_number, mem_pair, same_bytes_lem, differ_once}

-- ── What is said ────────────────────────────────────────────────────────────────────────────────────────────

-- x stands before y, its sibling
abbrev pub Before : Table → ℕ → ℕ → Type 0
Before T x y = (parent T x ≡ parent T y) × (child T x < child T y)

-- two elements with parents that are a pair
pub record ParentsPair (O N : Table) (P : List (ℕ × ℕ)) (x y : ℕ) : Type 0 where
  pub old : ℕ
  pub new : ℕ
  pub up : parent O x ≡ some old
  pub up' : parent N y ≡ some new
  pub paired : Memᴰ (old, new) P

-- an element at or below a changed one
pub record Covered (N : Table) (changed : List ℕ) (y : ℕ) : Type 0 where
  pub by : ℕ
  pub one : Memᴰ by changed
  pub place : Path
  pub under : place_below N by y ≡ some place

pub record Says (os ns : List (Tree ℕ)) (P : List (ℕ × ℕ)) (changed : List ℕ) : Type 0 where
  -- "the roots are paired"
  pub roots : Memᴰ (0, 0) P
  -- "no element is paired twice"
  pub olds : Pairs (λ (p q : ℕ × ℕ). p.0 ≡ q.0 → ⊥) P
  pub news : Pairs (λ (p q : ℕ × ℕ). p.1 ≡ q.1 → ⊥) P
  -- "paired elements have equal kind words and, for tokens, equal text"
  pub kinds : (x y : ℕ) → Memᴰ (x, y) P → (row (table 0 0 os) x).kind ≡ (row (table 0 0 ns) y).kind
  pub texts : (x y : ℕ) → Memᴰ (x, y) P → node? (table 0 0 os) x ≡ false → text_at os x ≡ text_at ns y
  -- "paired elements other than the roots have parents that are a pair"
  pub parents : (x y : ℕ) → Memᴰ (x, y) P → ((x ≡ 0) × (y ≡ 0)) ⊎ ParentsPair (table 0 0 os) (table 0 0 ns) P x y
  -- "paired siblings stand in the same order in both trees"
  pub order : (x y x' y' : ℕ) → Memᴰ (x, y) P → Memᴰ (x', y') P → Before (table 0 0 os) x x' → Before (table 0 0 ns) y y'
  -- "every unpaired new element is at or below a changed one, and no paired one is"
  pub new : (y : ℕ) → y < length (table 0 0 ns) → ((x : ℕ) → ¬ Memᴰ (x, y) P) → Covered (table 0 0 ns) changed y
  pub kept : (x y : ℕ) → Memᴰ (x, y) P → ¬ Covered (table 0 0 ns) changed y

-- ── Tests and statements ────────────────────────────────────────────────────────────────────────────────────

pub every_mem : {A : Type 0} (p : A → Bool) (l : List A) (x : A) → every p l ≡ true → Memᴰ x l → p x ≡ true
unfolding every
every_mem p [] x e m = absurd (Memᴰ.not-nil m)
every_mem p (y ∷ l) x e m = let (a, b) = both_true (p y) (every p l) e in go a (Memᴰ.cases_cons m) (every_mem p l x b)
  where
    go : p y ≡ true → (x ≡ y) ⊎ Memᴰ x l → (Memᴰ x l → p x ≡ true) → p x ≡ true
    go a (inl q) r = ap p q ∙ a
    go a (inr q) r = r q

-- a test of numbers holds of each
numbers_each : {A : Type 0} (p : ℕ → Bool) (l : List A) → every (λ m. p m.0) (numbered 0 l) ≡ true → (x : ℕ) → x < length l → p x ≡ true
unfolding numbers_of
numbers_each p l e x h =
    let (m, a, b) = mem_map (λ m. m.0) (numbered 0 l) x (within_numbers 0 l x (omega arith) (omega arith)) in
    ap p (sym b) ∙ every_mem (λ m. p m.0) (numbered 0 l) m e a

once_differ : {A : Type 0} (f : A → ℕ) (l : List A) → no_repeat (map f l) ≡ true → Pairs (λ p q. f p ≡ f q → ⊥) l
unfolding no_repeat among
once_differ f [] e = tt
once_differ f (x ∷ l) e =
    let (a, b) = both_true (not (any (eqb (f x)) (map f l))) (no_repeat (map f l)) e in
    (All-map (λ y z q. bool_absurd (eq-eqb (f x) (f y) q) z) l (none_passes (λ y. eqb (f x) (f y)) l (sym (any_over f (λ y. eqb (f x) (f y)) (eqb (f x)) (λ y. refl) l) ∙ not-true _ a)), once_differ f l b)

pair_mem : (P : List (ℕ × ℕ)) (x y : ℕ) → is_pair P x y ≡ true → Memᴰ (x, y) P
unfolding is_pair
pair_mem P x y e =
    let (p, m, t) = any_mem (λ p. eqb p.0 x && eqb p.1 y) P e in
    let (a, b) = both_true (eqb p.0 x) (eqb p.1 y) t in
    subst (λ (q : ℕ × ℕ). Memᴰ q P) (λ i. (eqb-true p.0 x a i, eqb-true p.1 y b i)) m

pub bytes_same : (l m : List ℕ) → same_bytes l m ≡ true → l ≡ m
unfolding same_bytes
bytes_same [] [] e = refl
bytes_same [] (b ∷ m) e = bool_absurd e refl
bytes_same (a ∷ l) [] e = bool_absurd e refl
bytes_same (a ∷ l) (b ∷ m) e = let (x, y) = both_true (eqb a b) (same_bytes l m) e in λ i. eqb-true a b x i ∷ bytes_same l m y i

same_parents : (o n : Option ℕ) → same_parent o n ≡ true → o ≡ n
unfolding same_parent
same_parents none none e = refl
same_parents none (some n) e = bool_absurd e refl
same_parents (some m) none e = bool_absurd e refl
same_parents (some m) (some n) e = ap {B = Option ℕ} some (eqb-true m n e)

parents_same : (o : Option ℕ) → same_parent o o ≡ true
unfolding same_parent
parents_same none = refl
parents_same (some m) = eq-eqb m m refl

earlier_before : (T : Table) (x y : ℕ) → earlier T x y ≡ true → Before T x y
unfolding earlier
earlier_before T x y e = let (a, b) = both_true (same_parent (parent T x) (parent T y)) (ltb (child T x) (child T y)) e in (same_parents (parent T x) (parent T y) a, ltb-true (child T x) (child T y) b)

before_earlier : (T : Table) (x y : ℕ) → Before T x y → earlier T x y ≡ true
unfolding earlier
before_earlier T x y b = rw (b.0, parents_same (parent T y), lt-ltb (child T x) (child T y) b.1)

pub covered_told : (os ns : List (Tree ℕ)) (P : List (ℕ × ℕ)) (changed : List ℕ) (y : ℕ) → is_covered os ns P changed y ≡ true → Covered (table 0 0 ns) changed y
unfolding is_covered is_some
covered_told os ns P changed y e =
    let (c, m, t) = any_mem (λ c. is_some (place_below (table 0 0 ns) c y)) changed e in
    go c m (place_below (table 0 0 ns) c y) refl t
  where
    go : (c : ℕ) → Memᴰ c changed → (o : Option Path) → place_below (table 0 0 ns) c y ≡ o → is_some o ≡ true → Covered (table 0 0 ns) changed y
    go c m none z t = bool_absurd t refl
    go c m (some q) z t = record { by = c; one = m; place = q; under = z }

pub told_covered : (os ns : List (Tree ℕ)) (P : List (ℕ × ℕ)) (changed : List ℕ) (y : ℕ) → Covered (table 0 0 ns) changed y → is_covered os ns P changed y ≡ true
unfolding is_covered is_some
told_covered os ns P changed y c = mem_any (λ c. is_some (place_below (table 0 0 ns) c y)) changed c.by c.one (ap is_some c.under)

paired_told : (os ns : List (Tree ℕ)) (P : List (ℕ × ℕ)) (y : ℕ) → is_paired os ns P y ≡ true → (x : ℕ) × Memᴰ (x, y) P
unfolding is_paired among
paired_told os ns P y e =
    let (n, a, b) = any_mem (eqb y) (map (λ p. p.1) P) e in
    let (p, c, d) = mem_map (λ (p : ℕ × ℕ). p.1) P n a in
    (p.0, subst (λ (j : ℕ). Memᴰ (p.0, j) P) (d ∙ sym (eqb-true y n b)) c)

told_paired : (os ns : List (Tree ℕ)) (P : List (ℕ × ℕ)) (x y : ℕ) → Memᴰ (x, y) P → is_paired os ns P y ≡ true
unfolding is_paired among
told_paired os ns P x y m = mem_any (eqb y) (map (λ p. p.1) P) y (map_mem (λ (p : ℕ × ℕ). p.1) P (x, y) m) (eq-eqb y y refl)

-- ── "It accepts exactly if" ─────────────────────────────────────────────────────────────────────────────────

module _ (os ns : List (Tree ℕ)) (P : List (ℕ × ℕ)) (changed : List ℕ) where
  abbrev O : Table
  O = table 0 0 os

  abbrev N : Table
  N = table 0 0 ns

  -- ── 3 ──

  alike_said : Says os ns P changed → pairs_alike os ns P ≡ true
  unfolding pairs_alike
  alike_said s = every_all _ P (λ p m. one p.0 p.1 (node? O p.0) refl (s.kinds p.0 p.1 m) (s.texts p.0 p.1 m))
    where
      one : (x y : ℕ) (b : Bool) → node? O x ≡ b → (row O x).kind ≡ (row N y).kind → (node? O x ≡ false → text_at os x ≡ text_at ns y) → (eqb (row O x).kind (row N y).kind && (node? O x || same_bytes (text_at os x) (text_at ns y))) ≡ true
      one x y true e k t = rw (eq-eqb (row O x).kind (row N y).kind k, e)
      one x y false e k t = rw (eq-eqb (row O x).kind (row N y).kind k, e) (ap (λ (l : List ℕ). same_bytes l (text_at ns y)) (t e) ∙ same_bytes_lem (text_at ns y))

  said_alike : pairs_alike os ns P ≡ true → (x y : ℕ) → Memᴰ (x, y) P → ((row O x).kind ≡ (row N y).kind) × (node? O x ≡ false → text_at os x ≡ text_at ns y)
  unfolding pairs_alike
  said_alike e x y m =
      let (a, b) = both_true (eqb (row O x).kind (row N y).kind) _ (every_mem _ P (x, y) e m) in
      (eqb-true (row O x).kind (row N y).kind a, λ f. bytes_same (text_at os x) (text_at ns y) (ap (λ (c : Bool). c || same_bytes (text_at os x) (text_at ns y)) (sym f) ∙ b))

  -- ── 4 ──

  parents_said : Says os ns P changed → parents_paired os ns P ≡ true
  unfolding parents_paired are_pair
  parents_said s = every_all _ P (λ p m. one p.0 p.1 (s.parents p.0 p.1 m))
    where
      one : (x y : ℕ) → ((x ≡ 0) × (y ≡ 0)) ⊎ ParentsPair O N P x y → ((eqb x 0 && eqb y 0) || are_pair P (parent O x) (parent N y)) ≡ true
      one x y (inl z) = rw (eq-eqb x 0 z.0, eq-eqb y 0 z.1)
      one x y (inr k) = rw (k.up, k.up', mem_pair P k.old k.new k.paired) (or-true (eqb x 0 && eqb y 0))

  said_parents : parents_paired os ns P ≡ true → (x y : ℕ) → Memᴰ (x, y) P → ((x ≡ 0) × (y ≡ 0)) ⊎ ParentsPair O N P x y
  unfolding parents_paired are_pair
  said_parents e x y m = go (either_true (eqb x 0 && eqb y 0) (are_pair P (parent O x) (parent N y)) (every_mem _ P (x, y) e m))
    where
      up : (o n : Option ℕ) → parent O x ≡ o → parent N y ≡ n → are_pair P o n ≡ true → ParentsPair O N P x y
      up none n a b t = bool_absurd t refl
      up (some i) none a b t = bool_absurd t refl
      up (some i) (some j) a b t = record { old = i; new = j; up = a; up' = b; paired = pair_mem P i j t }

      go : ((eqb x 0 && eqb y 0) ≡ true) ⊎ (are_pair P (parent O x) (parent N y) ≡ true) → ((x ≡ 0) × (y ≡ 0)) ⊎ ParentsPair O N P x y
      go (inl t) = let (a, b) = both_true (eqb x 0) (eqb y 0) t in inl (eqb-true x 0 a, eqb-true y 0 b)
      go (inr t) = inr (up (parent O x) (parent N y) refl refl t)

  -- ── 5 ──

  orders_said : Says os ns P changed → orders_agree os ns P ≡ true
  unfolding orders_agree
  orders_said s = every_all _ P (λ p m. every_all _ P (λ q o. one p.0 p.1 q.0 q.1 (earlier O p.0 q.0) refl (s.order p.0 p.1 q.0 q.1 m o)))
    where
      one : (x y x' y' : ℕ) (b : Bool) → earlier O x x' ≡ b → (Before O x x' → Before N y y') → (not (earlier O x x') || earlier N y y') ≡ true
      one x y x' y' true e f = rw (e, before_earlier N y y' (f (earlier_before O x x' e)))
      one x y x' y' false e f = rw e

  said_orders : orders_agree os ns P ≡ true → (x y x' y' : ℕ) → Memᴰ (x, y) P → Memᴰ (x', y') P → Before O x x' → Before N y y'
  unfolding orders_agree
  said_orders e x y x' y' m o b = earlier_before N y y' (ap (λ (c : Bool). not c || earlier N y y') (sym (before_earlier O x x' b)) ∙ every_mem _ P (x', y') (every_mem _ P (x, y) e m) o)

  -- ── 6 ──

  accounted_said : Says os ns P changed → all_accounted os ns P changed ≡ true
  unfolding all_accounted just_one
  accounted_said s = every_number (λ y. just_one (is_paired os ns P y) (is_covered os ns P changed y)) N (λ y l. one y l (is_paired os ns P y) (is_covered os ns P changed y) refl refl)
    where
      one : (y : ℕ) → y < length N → (a b : Bool) → is_paired os ns P y ≡ a → is_covered os ns P changed y ≡ b → just_one (is_paired os ns P y) (is_covered os ns P changed y) ≡ true
      one y l true false e f = rw (e, f, just_one)
      one y l false true e f = rw (e, f, just_one)
      one y l true true e f = let (x, m) = paired_told os ns P y e in absurd (s.kept x y m (covered_told os ns P changed y f))
      one y l false false e f = bool_absurd (told_covered os ns P changed y (s.new y l (λ x m. bool_absurd (told_paired os ns P x y m) e))) f

  said_accounted : all_accounted os ns P changed ≡ true → (y : ℕ) → y < length N → just_one (is_paired os ns P y) (is_covered os ns P changed y) ≡ true
  unfolding all_accounted just_one
  said_accounted e y l = numbers_each (λ y. just_one (is_paired os ns P y) (is_covered os ns P changed y)) N e y l

  -- ── All six ──

  pub says_accepts : Says os ns P changed → accepts os ns P changed ≡ true
  unfolding accepts roots_paired none_twice
  says_accepts s = rw (mem_pair P 0 0 s.roots, differ_once (λ p. p.0) P s.olds, differ_once (λ p. p.1) P s.news, alike_said s, parents_said s, orders_said s, accounted_said s)

  -- what 19 lets pass
  module _ (within : (x y : ℕ) → Memᴰ (x, y) P → y < length N) where
    pub accepts_says : accepts os ns P changed ≡ true → Says os ns P changed
    unfolding accepts roots_paired none_twice just_one
    accepts_says e =
        let (r, e) = both_true (roots_paired os ns P) _ e in
        let (t, e) = both_true (none_twice os ns P) _ e in
        let (a, e) = both_true (pairs_alike os ns P) _ e in
        let (p, e) = both_true (parents_paired os ns P) _ e in
        let (o, c) = both_true (orders_agree os ns P) _ e in
        let (x, y) = both_true (no_repeat (map (λ p. p.0) P)) (no_repeat (map (λ p. p.1) P)) t in
        record {
          roots = pair_mem P 0 0 r;
          olds = once_differ (λ p. p.0) P x;
          news = once_differ (λ p. p.1) P y;
          kinds = λ x y m. (said_alike a x y m).0;
          texts = λ x y m. (said_alike a x y m).1;
          parents = said_parents p;
          order = said_orders o;
          new = λ y l n. covered_told os ns P changed y (fresh y n (is_paired os ns P y) refl (said_accounted c y l));
          kept = λ x y m k. bool_absurd (told_covered os ns P changed y k) (stays y (is_paired os ns P y) (told_paired os ns P x y m) (said_accounted c y (within x y m)));
        }
      where
        fresh : (y : ℕ) → ((x : ℕ) → ¬ Memᴰ (x, y) P) → (b : Bool) → is_paired os ns P y ≡ b → just_one b (is_covered os ns P changed y) ≡ true → is_covered os ns P changed y ≡ true
        fresh y n true e j = let (x, m) = paired_told os ns P y e in absurd (n x m)
        fresh y n false e j = j

        stays : (y : ℕ) (b : Bool) → b ≡ true → just_one b (is_covered os ns P changed y) ≡ true → is_covered os ns P changed y ≡ false
        stays y true e j = not-true _ j
        stays y false e j = bool_absurd e refl

    -- "It accepts exactly if"
    pub accepts_exactly : (accepts os ns P changed ≡ true) ↔ Says os ns P changed
    accepts_exactly = (accepts_says, says_accepts)

-- ── The checker ─────────────────────────────────────────────────────────────────────────────────────────────

-- what 3, 4, 5 and 19 let pass, and the trees that it spells
pub record Passed (c : Claims) : Type 0 where
  pub os : List (Tree ℕ)
  pub ns : List (Tree ℕ)
  pub old_small : too_big c.old ≡ false
  pub new_small : too_big c.new ≡ false
  pub equal : unequal c ≡ false
  pub old : spelled (alone c.old) ≡ some os
  pub new : spelled (alone c.new) ≡ some ns
  pub named : names_none (table 0 0 os) (table 0 0 ns) c ≡ false

pub passed_gives : (c : Claims) (p : Passed c) → checked c ≡ gives (accepts p.os p.ns (zip c.olds c.news) c.changed)
unfolding checked refuse or_refuse ◌>>=◌
passed_gives c p = rw (p.old_small, p.new_small, p.equal, p.old, p.new, p.named)

-- nothing else is answered
pub gives_passed : (c : Claims) (b : Bool) → checked c ≡ gives b → Passed c
unfolding checked
gives_passed c b e =
    given (refuse 3 (too_big c.old || too_big c.new)) _ e λ u x e.
    given (refuse 4 (unequal c)) _ e λ u y e.
    given (or_refuse 5 (spelled (alone c.old))) _ e λ os o e.
    given (or_refuse 5 (spelled (alone c.new))) _ e λ ns n e.
    given (refuse 19 (names_none (table 0 0 os) (table 0 0 ns) c)) _ e λ u z e.
    let (s, t) = either_false (too_big c.old) (too_big c.new) (not_wrong 3 _ x) in
    record { os = os; ns = ns; old_small = s; new_small = t; equal = not_wrong 4 _ y; old = is_there 5 _ o; new = is_there 5 _ n; named = not_wrong 19 _ z }

zip_second : (l m : List ℕ) (x y : ℕ) → Memᴰ (x, y) (zip l m) → Memᴰ y m
unfolding zip zip_with
zip_second [] m x y e = absurd (Memᴰ.not-nil e)
zip_second (a ∷ l) [] x y e = absurd (Memᴰ.not-nil e)
zip_second (a ∷ l) (b ∷ m) x y e = go (Memᴰ.cases_cons e) (zip_second l m x y)
  where
    go : (◌≡◌ {A = ℕ × ℕ} (x, y) (a, b)) ⊎ Memᴰ (x, y) (zip l m) → (Memᴰ (x, y) (zip l m) → Memᴰ y m) → Memᴰ y (b ∷ m)
    go (inl q) r = Memᴰ.head (ap (λ (p : ℕ × ℕ). p.1) q)
    go (inr q) r = Memᴰ.tail (r q)

-- the new element of each pair is one of the new tree
passed_within : (c : Claims) (p : Passed c) (x y : ℕ) → Memᴰ (x, y) (zip c.olds c.news) → y < length (table 0 0 p.ns)
unfolding names_none
passed_within c p x y m =
    let test = leb (length (table 0 0 p.ns)) in
    let (a, b) = either_false (any (leb (length (table 0 0 p.os))) c.olds) (any test (c.news ++ c.changed)) p.named in
    leb-false (length (table 0 0 p.ns)) y (All-mem (λ y. test y ≡ false) (c.news ++ c.changed) y (none_passes test (c.news ++ c.changed) b) (in_left c.news c.changed y (zip_second c.olds c.news x y m)))
  where
    in_left : (l m : List ℕ) (y : ℕ) → Memᴰ y l → Memᴰ y (l ++ m)
    in_left [] m y e = absurd (Memᴰ.not-nil e)
    in_left (z ∷ l) m y e = go (Memᴰ.cases_cons e) (in_left l m y)
      where
        go : (y ≡ z) ⊎ Memᴰ y l → (Memᴰ y l → Memᴰ y (l ++ m)) → Memᴰ y (z ∷ (l ++ m))
        go (inl q) r = Memᴰ.head q
        go (inr q) r = Memᴰ.tail (r q)

-- THE CHECKER ACCEPTS EXACTLY IF the refusals let the claims pass and the six clauses hold
pub checked_exactly : (c : Claims) → (checked c ≡ gives true) ↔ ((p : Passed c) × Says p.os p.ns (zip c.olds c.news) c.changed)
checked_exactly c = (there, λ r. passed_gives c r.0 ∙ ap {B = Answer Bool} gives (says_accepts r.0.os r.0.ns (zip c.olds c.news) c.changed r.1))
  where
    there : checked c ≡ gives true → (p : Passed c) × Says p.os p.ns (zip c.olds c.news) c.changed
    there e =
        let p = gives_passed c true e in
        (p, accepts_says p.os p.ns (zip c.olds c.news) c.changed (passed_within c p) (gives_inj (sym (passed_gives c p) ∙ e)))
