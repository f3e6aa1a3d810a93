-- The stack of each tree after the first n changes: its regions are nested, and the first of them that passes a test is the last that no later change
-- of the tree leaves. So what becomes of each change is told by its owner.
-- Assumes nothing.
use Rattle.std.specs.Prelude.{◌≡◌, Bool, ◌&&◌, leb, eqb, length, get_or, set, replicate}
use Rattle.std.proofs.Math.Path.{refl, ap}
use Rattle.std.proofs.Common.{sym, ◌∙◌, get_or-set_same, get_or-set_other}
use Rattle.std.proofs.Math.Bool.{true, false, cond, and-false}
use mathlib.Core.List.{List, [], ◌∷◌}
use Rattle.std.proofs.Math.Option.{Option, none, some, map}
use Prim.Native.Nat.{ℕ, zero, suc, ◌+◌, ◌≤◌, ◌<◌}
use native.Mathlib.Omega.{arith}
use Rattle.std.proofs.Math.ListN.{length-set, get_or-replicate, length-replicate}
use borrow.Author.Tests.{leb-true, le-leb, lt-ltb, le-ltb, eqb-true, eqb-false}
use Rattle.orders.specs.Lists.{All, Pairs}
use Rattle.orders.specs.ListLaws.{both_true, All-map}
use Rattle.definition.specs.Basics.{first}
use Rattle.definition.specs.Elements.{Table}
use Rattle.definition.specs.Recording.{Change}
use Rattle.definition.specs.Planning.{from, to, Fate, own, Region, contains, around, fate, adds_region, inner, pushed, fates_from, fates}
use Rattle.definition_laws.specs.Regions.{fate_around}
use Rattle.account_laws.specs.Words.{last_below, every_below, at, tree_of, InTrees, covers, fate_at, spares, owns, owner, fate_under}
use Rattle.account_laws.proofs.Below.{last_yes, last_no, last_same, passes_every}

-- ── Nested regions ──────────────────────────────────────────────────────────────────────────────────────────

-- s is as wide as r
abbrev Wider : Region → Region → Type 0
Wider r s = (s.from ≤ r.from) × (r.to ≤ s.to)

-- each region of a stack is as wide as all before it
abbrev Nested : List Region → Type 0
Nested rs = Pairs Wider rs

module _ (a b : ℕ) where
  wider_contains : (r s : Region) → Wider r s → contains a b r ≡ true → contains a b s ≡ true
  wider_contains r s w e =
      let q = both_true (leb r.from a) (leb b r.to) e in
      rw (le-leb s.from a (omega (arith, w.0, leb-true r.from a q.0)), le-leb b s.to (omega (arith, w.1, leb-true b r.to q.1)))

  -- what is left of a nested stack is nested, and all of it contains a to b
  around_nested : (rs : List Region) → Nested rs → Nested (around a b rs) × All (λ r. contains a b r ≡ true) (around a b rs)
  unfolding around
  around_nested [] n = (tt, tt)
  around_nested (r ∷ rs) n = go (contains a b r) refl (around_nested rs n.1)
    where
      go : (c : Bool) → contains a b r ≡ c → Nested (around a b rs) × All (λ r. contains a b r ≡ true) (around a b rs)
          → Nested (cond c (r ∷ rs) (around a b rs)) × All (λ r. contains a b r ≡ true) (cond c (r ∷ rs) (around a b rs))
      go true e h = (n, (e, All-map (λ s w. wider_contains r s w e) rs n.0))
      go false e h = h

  module _ (p : Region → Bool) where
    first_same : (rs : List Region) → All (λ r. contains a b r ≡ true) rs → first p rs ≡ first (λ r. contains a b r && p r) rs
    unfolding first
    first_same [] h = refl
    first_same (r ∷ rs) h = rw (h.0, first_same rs h.1)

    -- the first that passes, of what is left, is the first of all that contains a to b and passes
    pub first_around : (rs : List Region) → Nested rs → first p (around a b rs) ≡ first (λ r. contains a b r && p r) rs
    unfolding around first
    first_around [] n = refl
    first_around (r ∷ rs) n = go (contains a b r) refl (first_around rs n.1)
      where
        go : (c : Bool) → contains a b r ≡ c → first p (around a b rs) ≡ first (λ r. contains a b r && p r) rs
            → first p (cond c (r ∷ rs) (around a b rs)) ≡ cond (c && p r) (some r) (first (λ r. contains a b r && p r) rs)
        go true e h = ap (λ o. cond (p r) (some r) o) (first_same rs (All-map (λ s w. wider_contains r s w e) rs n.0))
        go false e h = h

module _ (T : Table) (cs : List Change) where
  -- ── The stack of a tree ───────────────────────────────────────────────────────────────────────────────────

  -- the stack of tree t after the first n changes
  unfoldable pub stack_after : ℕ → ℕ → List Region
  stack_after t zero = []
  stack_after t (suc n) =
      let c = at cs n in
      let before = stack_after t n in
      cond (eqb (tree_of T c) t) (pushed T n c (around (from T c) (to T c) before)) before

  -- what the stacks make of change i, and its region
  unfoldable pub fate_here : ℕ → Fate
  fate_here i = fate (around (from T (at cs i)) (to T (at cs i)) (stack_after (tree_of T (at cs i)) i))

  unfoldable pub region_at : ℕ → Region
  region_at k = record { from = from T (at cs k); to = to T (at cs k); inner = inner T k (fate_here k) (at cs k) }

  stack_other : (t n : ℕ) → eqb (tree_of T (at cs n)) t ≡ false → stack_after t (suc n) ≡ stack_after t n
  unfolding stack_after
  stack_other t n e = rw e

  -- what change n leaves of the stack of its tree, and the stack with its region
  abbrev left : ℕ → ℕ → List Region
  left t n = around (from T (at cs n)) (to T (at cs n)) (stack_after t n)

  stack_here : (t n : ℕ) → eqb (tree_of T (at cs n)) t ≡ true → stack_after t (suc n) ≡ cond (adds_region T (at cs n)) (region_at n ∷ left t n) (left t n)
  unfolding stack_after pushed region_at fate_here
  stack_here t n e = rw (e, eqb-true (tree_of T (at cs n)) t e)

  stack_nested : (t n : ℕ) → Nested (stack_after t n)
  unfolding stack_after region_at
  stack_nested t zero = tt
  stack_nested t (suc n) = go (eqb (tree_of T (at cs n)) t) refl (stack_nested t n)
    where
      c : Change
      c = at cs n

      more : (b : Bool) → Nested (left t n) × All (λ r. contains (from T c) (to T c) r ≡ true) (left t n) → Nested (cond b (region_at n ∷ left t n) (left t n))
      more true h = (All-map (λ r e. wide r (both_true (leb r.from (from T c)) (leb (to T c) r.to) e)) (left t n) h.1, h.0)
        where
          wide : (r : Region) → (leb r.from (from T c) ≡ true) × (leb (to T c) r.to ≡ true) → Wider (region_at n) r
          wide r e = (leb-true r.from (from T c) e.0, leb-true (to T c) r.to e.1)
      more false h = h.0

      go : (b : Bool) → eqb (tree_of T c) t ≡ b → Nested (stack_after t n) → Nested (stack_after t (suc n))
      go true e h = rw (stack_here t n e) (more (adds_region T c) (around_nested (from T c) (to T c) (stack_after t n) h))
      go false e h = rw (stack_other t n e) h

  -- ── The last that no later change leaves ──────────────────────────────────────────────────────────────────

  -- change k adds a region of tree t that passes the test, and no later change below n leaves it
  unfoldable pub stands : ℕ → (Region → Bool) → ℕ → ℕ → Bool
  stands t p n k = adds_region T (at cs k) && (eqb (tree_of T (at cs k)) t && (p (region_at k) && every_below n (spares T cs t k)))

  -- change n is of another tree: it leaves every region
  stands_other : (t n : ℕ) (p : Region → Bool) → eqb (tree_of T (at cs n)) t ≡ false → last_below (suc n) (stands t p (suc n)) ≡ last_below n (stands t p n)
  unfolding stands every_below spares
  stands_other t n p e = last_no (stands t p (suc n)) n (rw e (and-false (adds_region T (at cs n)))) ∙ last_same n (stands t p (suc n)) (stands t p n) (λ k h. rw (e, lt-ltb k n h))

  -- it is of tree t: what still stands contains it too
  stands_later : (t n : ℕ) (p : Region → Bool) → eqb (tree_of T (at cs n)) t ≡ true
      → last_below n (stands t p (suc n)) ≡ last_below n (stands t (λ r. contains (from T (at cs n)) (to T (at cs n)) r && p r) n)
  unfolding stands every_below spares region_at
  stands_later t n p e = last_same n (stands t p (suc n)) (stands t (λ r. contains (from T (at cs n)) (to T (at cs n)) r && p r) n)
      (λ k h. rw (e, lt-ltb k n h) (turn (adds_region T (at cs k)) (eqb (tree_of T (at cs k)) t) (p (region_at k)) (covers T (at cs k) (at cs n)) (every_below n (spares T cs t k))))
    where
      turn : (a b c d e : Bool) → (a && (b && (c && (d && e)))) ≡ (a && (b && ((d && c) && e)))
      turn false b c d e = refl
      turn true false c d e = refl
      turn true true true true e = refl
      turn true true true false e = refl
      turn true true false true e = refl
      turn true true false false e = refl

  -- its own region stands if it passes
  stands_here : (t n : ℕ) (p : Region → Bool) → eqb (tree_of T (at cs n)) t ≡ true → stands t p (suc n) n ≡ (adds_region T (at cs n) && p (region_at n))
  unfolding stands spares
  stands_here t n p e = rw (e, passes_every (spares T cs t n) (suc n) (λ m h. early m h)) (drop (adds_region T (at cs n)) (p (region_at n)))
    where
      early : (m : ℕ) → m < suc n → spares T cs t n m ≡ true
      early m h = rw (le-ltb n m (omega arith))

      drop : (a b : Bool) → (a && (true && (b && true))) ≡ (a && b)
      drop false b = refl
      drop true true = refl
      drop true false = refl

  -- the first region of the stack that passes
  pub stack_first : (t n : ℕ) (p : Region → Bool) → first p (stack_after t n) ≡ map region_at (last_below n (stands t p n))
  unfolding stack_after first last_below
  stack_first t zero p = refl
  stack_first t (suc n) p = go (eqb (tree_of T (at cs n)) t) refl (stack_first t n)
    where
      c : Change
      c = at cs n

      within : Region → Bool
      within r = contains (from T c) (to T c) r && p r

      here : (a : Bool) → adds_region T c ≡ a → (b : Bool) → p (region_at n) ≡ b → stands t p (suc n) n ≡ (a && b) → first p (left t n) ≡ map region_at (last_below n (stands t p (suc n)))
          → first p (cond a (region_at n ∷ left t n) (left t n)) ≡ map region_at (last_below (suc n) (stands t p (suc n)))
      here true e true f s r = rw (last_yes (stands t p (suc n)) n s, f)
      here true e false f s r = rw (last_no (stands t p (suc n)) n s, f) r
      here false e b f s r = rw (last_no (stands t p (suc n)) n s) r

      go : (b : Bool) → eqb (tree_of T c) t ≡ b → ((p : Region → Bool) → first p (stack_after t n) ≡ map region_at (last_below n (stands t p n))) → first p (stack_after t (suc n)) ≡ map region_at (last_below (suc n) (stands t p (suc n)))
      go false e h = rw (stack_other t n e, stands_other t n p e) (h p)
      go true e h =
          rw (stack_here t n e)
          (here (adds_region T c) refl (p (region_at n)) refl (stands_here t n p e)
          (first_around (from T c) (to T c) p (stack_after t n) (stack_nested t n) ∙ (h within ∙ ap (map region_at) (sym (stands_later t n p e)))))

  -- what the stacks make of change i goes by its owner
  pub here_owned : (i : ℕ) → fate_here i ≡ fate_under T cs fate_here (owner T cs i)
  unfolding fate_here owner owns stands region_at fate_under inner
  here_owned i =
      let c = at cs i in
      fate_around (from T c) (to T c) (stack_after (tree_of T c) i)
      ∙ (ap (λ (o : Option Region). elim o as (λ o. Fate) [ none ↦ own | some r ↦ r.inner ]) (stack_first (tree_of T c) i (contains (from T c) (to T c))) ∙ go (owner T cs i))
    where
      go : (o : Option ℕ) → elim (map region_at o) as (λ o. Fate) [ none ↦ own | some r ↦ r.inner ] ≡ fate_under T cs fate_here o
      go none = refl
      go (some k) = refl

  -- ── The definition's stacks ───────────────────────────────────────────────────────────────────────────────

  -- the stacks after n changes
  record Stacked (n : ℕ) (stacks : List (List Region)) : Type 0 where
    long : length stacks ≡ 16
    told : (t : ℕ) → t < 16 → get_or stacks t [] ≡ stack_after t n

  stacked_first : Stacked 0 (replicate 16 [])
  unfolding stack_after
  stacked_first = record { long = length-replicate {A = List Region} 16 []; told = λ t h. get_or-replicate {A = List Region} 16 t [] [] h }

  stacked_next : (n : ℕ) (stacks : List (List Region)) → tree_of T (at cs n) < 16 → Stacked n stacks → Stacked (suc n) (set stacks (tree_of T (at cs n)) (pushed T n (at cs n) (left (tree_of T (at cs n)) n)))
  unfolding stack_after
  stacked_next n stacks h s = record { long = length-set stacks (tree_of T (at cs n)) _ ∙ s.long; told = λ t k. go t k (eqb (tree_of T (at cs n)) t) refl }
    where
      c : Change
      c = at cs n

      new : List Region
      new = pushed T n c (left (tree_of T c) n)

      go : (t : ℕ) → t < 16 → (b : Bool) → eqb (tree_of T c) t ≡ b → get_or (set stacks (tree_of T c) new) t [] ≡ cond b (pushed T n c (left t n)) (stack_after t n)
      go t k true e = let q = eqb-true (tree_of T c) t e in rw (← q) (get_or-set_same stacks (tree_of T c) new [] (omega (arith, s.long)))
      go t k false e = get_or-set_other stacks (tree_of T c) t new [] (λ q. eqb-false (tree_of T c) t e (sym q)) ∙ s.told t k

  -- what comes of change n, and the stacks after it
  abbrev next : ℕ → List (List Region) → List (List Region)
  next n stacks = set stacks (tree_of T (at cs n)) (pushed T n (at cs n) (left (tree_of T (at cs n)) n))

  fates_cons : (n : ℕ) (stacks : List (List Region)) (c : Change) (l : List Change) → c ≡ at cs n → get_or stacks (tree_of T (at cs n)) [] ≡ stack_after (tree_of T (at cs n)) n
      → fates_from T n stacks (c ∷ l) ≡ fate_here n ∷ fates_from T (suc n) (next n stacks) l
  unfolding fates_from fate_here
  fates_cons n stacks c l e h = rw (e, h)

  fates_from_lem : (n : ℕ) (stacks : List (List Region)) (l : List Change) → Stacked n stacks → InTrees T l → ((i : ℕ) → at l i ≡ at cs (n + i)) → (i : ℕ) → i < length l → get_or (fates_from T n stacks l) i own ≡ fate_here (n + i)
  fates_from_lem n stacks [] s k h i b = absurd (omega arith)
  fates_from_lem n stacks (c ∷ l) s k h i b =
      let here : n + 0 ≡ n = omega arith in
      let e : c ≡ at cs n = h 0 ∙ ap (at cs) here in
      let low : tree_of T (at cs n) < 16 = rw (← e) k.0 in
      ap (λ r. get_or r i own) (fates_cons n stacks c l e (s.told (tree_of T (at cs n)) low))
      ∙ go i b (λ j d. fates_from_lem (suc n) (next n stacks) l (stacked_next n stacks low s) k.1 (λ i. h (suc i) ∙ (let z : n + suc i ≡ suc n + i = omega arith in ap (at cs) z)) j d)
    where
      go : (i : ℕ) → i < length (c ∷ l) → ((j : ℕ) → j < length l → get_or (fates_from T (suc n) (next n stacks) l) j own ≡ fate_here (suc n + j))
          → get_or (fate_here n ∷ fates_from T (suc n) (next n stacks) l) i own ≡ fate_here (n + i)
      go zero b r = let z : n ≡ n + 0 = omega arith in ap fate_here z
      go (suc j) b r = let z : suc n + j ≡ n + suc j = omega arith in r j (omega arith) ∙ ap fate_here z

  pub fates_here : InTrees T cs → (i : ℕ) → i < length cs → fate_at T cs i ≡ fate_here i
  unfolding fates
  fates_here k i b = fates_from_lem 0 (replicate 16 []) cs stacked_first k (λ i. let z : i ≡ 0 + i = omega arith in ap (at cs) z) i b ∙ (let z : 0 + i ≡ i = omega arith in ap fate_here z)
