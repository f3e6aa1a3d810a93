-- Each change has one owner, so no change runs twice: the running order has at most as many places as there are rows.
-- Assumes nothing.
use Rattle.std.specs.Prelude.{◌≡◌, true, false, eqb}
use Rattle.std.proofs.Math.Path.{refl, sym}
use Rattle.std.proofs.Common.{◌∙◌, zero-add, length-append, eqb-true, ne_eqb}
use Rattle.std.proofs.Math.Bool.{Bool, cond}
use mathlib.Core.List.{List, [], ◌∷◌, ◌++◌, flat_map}
use Rattle.std.proofs.Math.Option.{Option, none, some}
use Prim.Native.Nat.{ℕ, zero, suc, ◌+◌, ◌≤◌, ◌<◌}
use native.Mathlib.Omega.{arith}
use Rattle.std.proofs.Math.ListN.{length}
use Rattle.orders.specs.Lists.{total}
use Rattle.definition.specs.Basics.{keep, insert_by}
use Rattle.definition.specs.Planning.{Fate, own, dependent, discarded}
use Rattle.definition.specs.Running.{owned}
use Rattle.definition_laws.specs.Basics.{total_add, total_zero}
use Rattle.record_changes.specs.ChangeRowLaws.{row_at}
use Rattle.plan_sort.specs.Rows.{row_fate}
use Rattle.plan_sort.specs.Sorting.{sort_from, comes_at, ranked_places, length_ranked}
use Rattle.plan_postorder.specs.Sums.{all, total_at_most, total_count, total_most, total_swap, length_kept}
use Rattle.plan_postorder.specs.Order.{ordered, owner_told, runs, running_places}

-- ── How often a place runs ──────────────────────────────────────────────────────────────────────────────────

-- the places that equal y, counted
abbrev pub times : ℕ → List ℕ → ℕ
times y l = total (λ q. eqb q y) (λ q. 1) l

-- of those that pass a test, those that are y are all or none
total_owner : (p : ℕ → Bool) (y : ℕ) (l : List ℕ) → total p (λ q. cond (eqb q y) 1 0) l ≡ cond (p y) (times y l) 0
unfolding total
total_owner p y [] = go (p y)
  where
    go : (b : Bool) → ◌≡◌ {A = ℕ} 0 (cond b 0 0)
    go true = refl
    go false = refl
total_owner p y (q ∷ l) = rw (total_owner p y l) (go (eqb q y) refl)
  where
    split : (b : Bool) (n : ℕ) → cond b 1 0 + cond b n 0 ≡ cond b (1 + n) 0
    split true n = refl
    split false n = refl

    none : (b : Bool) (n : ℕ) → cond b 0 0 + n ≡ n
    none true n = omega arith
    none false n = omega arith

    go : (e : Bool) → eqb q y ≡ e → cond (p q) (cond e 1 0) 0 + cond (p y) (times y l) 0 ≡ cond (p y) (cond e 1 0 + times y l) 0
    go true e = rw (eqb-true q y e) (split (p y) (times y l))
    go false e = rw (none (p q) (cond (p y) (times y l) 0), zero-add (times y l))

-- what f tells of the owner, 0 if there is none
abbrev of_owner : (ℕ → ℕ) → Fate → ℕ
of_owner f own = 0
of_owner f (dependent y) = f y
of_owner f (discarded y) = 0

module _ (fate_at : ℕ → Fate) where
  -- how often x stands below the owner o, at most m levels down: as its own, and as often as x's owner does
  abbrev below : ℕ → Option ℕ → ℕ → ℕ
  below zero o x = 0
  below (suc m) o x = cond (owned o (fate_at x)) 1 0 + of_owner (below m o) (fate_at x)

  -- below no owner at most once: an owner is none or a change
  below_none : (m x : ℕ) → below m none x ≤ 1
  unfolding owned
  below_none zero x = omega arith
  below_none (suc m) x = go (fate_at x) (below_none m)
    where
      go : (f : Fate) → ((y : ℕ) → below m none y ≤ 1) → cond (owned none f) 1 0 + of_owner (below m none) f ≤ 1
      go own h = omega arith
      go (dependent y) h = omega (arith, h y)
      go (discarded y) h = omega arith

  module _ (qs : List ℕ) (once : (y : ℕ) → times y qs ≤ 1) where
    -- of those that pass a test one at most is y, and y passes
    one_owner : (p : ℕ → Bool) (y : ℕ) → total p (λ q. cond (eqb q y) 1 0) qs ≤ cond (p y) 1 0
    one_owner p y = rw (total_owner p y qs) (go (p y) (once y))
      where
        go : (b : Bool) → times y qs ≤ 1 → cond b (times y qs) 0 ≤ cond b 1 0
        go true h = h
        go false h = omega arith

    -- x stands below the changes of an owner together at most as often as x's owner stands below that owner
    below_owned : (m : ℕ) (o : Option ℕ) (x : ℕ) → total (λ q. owned o (fate_at q)) (λ q. below m (some q) x) qs ≤ of_owner (below m o) (fate_at x)
    unfolding owned
    below_owned zero o x = omega (arith, total_zero (λ q. owned o (fate_at q)) qs)
    below_owned (suc m) o x = go (fate_at x) (below_owned m o)
      where
        p : ℕ → Bool
        p q = owned o (fate_at q)

        go : (f : Fate) → ((y : ℕ) → total p (λ q. below m (some q) y) qs ≤ of_owner (below m o) (fate_at y)) → total p (λ q. cond (owned (some q) f) 1 0 + of_owner (below m (some q)) f) qs ≤ of_owner (below (suc m) o) f
        go own h = omega (arith, total_zero p qs)
        go (dependent y) h = rw (total_add p (λ q. cond (eqb q y) 1 0) (λ q. below m (some q) y) qs) (omega (arith, one_owner p y, h y))
        go (discarded y) h = omega (arith, total_zero p qs)

    length_ordered : (m : ℕ) (o : Option ℕ) → length (ordered (λ o k. owned o (fate_at k)) (λ k. k) qs m o) ≤ total all (below m o) qs
    unfolding ordered
    length_ordered zero o = omega arith
    length_ordered (suc m) o =
        let p : ℕ → Bool = λ q. owned o (fate_at q) in
        let sub : ℕ → List ℕ = λ q. ordered (λ o k. owned o (fate_at k)) (λ k. k) qs m (some q) in
        let e₁ : length (ordered (λ o k. owned o (fate_at k)) (λ k. k) qs (suc m) o) ≡ total p (λ q. length (sub q ++ (q ∷ []))) qs = length_kept p (λ q. sub q ++ (q ∷ [])) qs in
        let e₂ : total p (λ q. length (sub q ++ (q ∷ []))) qs ≤ total p (λ q. 1 + total all (below m (some q)) qs) qs =
        total_at_most p (λ q. length (sub q ++ (q ∷ []))) (λ q. 1 + total all (below m (some q)) qs) (λ q. rw (length-append (sub q) (q ∷ [])) (omega (arith, length_ordered m (some q)))) qs in
        let e₃ : total p (λ q. 1 + total all (below m (some q)) qs) qs ≡ total p (λ q. 1) qs + total p (λ q. total all (below m (some q)) qs) qs =
        total_add p (λ q. 1) (λ q. total all (below m (some q)) qs) qs in
        let e₄ : total p (λ q. total all (below m (some q)) qs) qs ≡ total all (λ x. total p (λ q. below m (some q) x) qs) qs =
        total_swap p all (λ q x. below m (some q) x) qs qs in
        let e₅ : total all (λ x. total p (λ q. below m (some q) x) qs) qs ≤ total all (λ x. of_owner (below m o) (fate_at x)) qs =
        total_at_most all (λ x. total p (λ q. below m (some q) x) qs) (λ x. of_owner (below m o) (fate_at x)) (λ x. below_owned m o x) qs in
        let e₆ : total all (below (suc m) o) qs ≡ total p (λ q. 1) qs + total all (λ x. of_owner (below m o) (fate_at x)) qs =
        total_add all (λ x. cond (p x) 1 0) (λ x. of_owner (below m o) (fate_at x)) qs ∙ rw (total_count p qs) in
        omega arith

    -- no more than there are
    pub ordered_most : (m : ℕ) → length (ordered (λ o k. owned o (fate_at k)) (λ k. k) qs m none) ≤ length qs
    ordered_most m = omega (arith, length_ordered m none, total_most (below m none) (below_none m) qs)

-- ── The places of rows ──────────────────────────────────────────────────────────────────────────────────────

times_insert : (comes : ℕ → ℕ → Bool) (y x : ℕ) (l : List ℕ) → times y (insert_by comes x l) ≡ cond (eqb x y) 1 0 + times y l
unfolding insert_by total
times_insert comes y x [] = refl
times_insert comes y x (z ∷ l) = go (comes z x) (times_insert comes y x l)
  where
    go : (b : Bool) → times y (insert_by comes x l) ≡ cond (eqb x y) 1 0 + times y l → times y (cond b (z ∷ insert_by comes x l) (x ∷ z ∷ l)) ≡ cond (eqb x y) 1 0 + (cond (eqb z y) 1 0 + times y l)
    go true e = omega arith
    go false e = refl

-- a place before the first is not there, and no place is there twice
times_before : (comes : ℕ → ℕ → Bool) (i n y : ℕ) → y < i → times y (sort_from comes i n) ≡ 0
unfolding sort_from total
times_before comes i zero y h = refl
times_before comes i (suc n) y h = rw (times_insert comes y i (sort_from comes (suc i) n), ne_eqb i y (λ e. omega arith), times_before comes (suc i) n y (omega arith))

pub times_sorted : (comes : ℕ → ℕ → Bool) (i n y : ℕ) → times y (sort_from comes i n) ≤ 1
unfolding sort_from total
times_sorted comes i zero y = omega arith
times_sorted comes i (suc n) y = rw (times_insert comes y i (sort_from comes (suc i) n)) (go (eqb i y) refl (times_sorted comes (suc i) n y))
  where
    go : (b : Bool) → eqb i y ≡ b → times y (sort_from comes (suc i) n) ≤ 1 → cond b 1 0 + times y (sort_from comes (suc i) n) ≤ 1
    go true e h = let q : i ≡ y = eqb-true i y e in omega (arith, times_before comes (suc i) n y (omega arith))
    go false e h = omega arith

-- however many may remain, the running order of n rows has at most n places
pub runs_most : (w : List ℕ) (n m : ℕ) → length (runs w (ranked_places w n) m 0) ≤ n
unfolding runs owner_told ranked_places
runs_most w n m =
    omega (arith, ordered_most (λ k. row_fate (row_at w k)) (ranked_places w n) (λ y. times_sorted (comes_at true w) 0 n y) m, length_ranked w n)

pub running_most : (w : List ℕ) (n : ℕ) → length (running_places w n) ≤ n
unfolding running_places
running_most w n = runs_most w n n

-- ── Fewer may remain ────────────────────────────────────────────────────────────────────────────────────────

-- f and g tell the same where f tells less than n: so they do joined, each element behind what they tell of it, where that is at most n
pub joined_same : {A : Type 0} (f g : A → List A) (n : ℕ) → ((q : A) → length (f q) < n → g q ≡ f q) → (ks : List A) → length (flat_map (λ q. f q ++ (q ∷ [])) ks) ≤ n
    → flat_map (λ q. g q ++ (q ∷ [])) ks ≡ flat_map (λ q. f q ++ (q ∷ [])) ks
unfolding flat_map
joined_same f g n same [] h = refl
joined_same f g n same (q ∷ ks) h =
    let e₁ = length-append (f q ++ (q ∷ [])) (flat_map (λ q. f q ++ (q ∷ [])) ks) in
    let e₂ = length-append (f q) (q ∷ []) in
    rw (same q (omega arith), joined_same f g n same ks (omega arith))

module _ {A : Type 0} (owns : Option ℕ → A → Bool) (place : A → ℕ) (qs : List A) where
  -- where what runs is no more than may remain, that more may remain changes nothing
  ordered_fewer : (m l : ℕ) (o : Option ℕ) → length (ordered owns place qs m o) ≤ l → l ≤ m → ordered owns place qs l o ≡ ordered owns place qs m o
  unfolding ordered
  ordered_fewer m zero o h k = sym (empty (ordered owns place qs m o) h)
    where
      empty : (r : List A) → length r ≤ 0 → r ≡ []
      empty [] e = refl
      empty (x ∷ r) e = absurd (omega arith)
  ordered_fewer zero (suc l) o h k = absurd (omega arith)
  ordered_fewer (suc m) (suc l) o h k =
      joined_same (λ q. ordered owns place qs m (some (place q))) (λ q. ordered owns place qs l (some (place q))) (suc l)
      (λ q b. ordered_fewer m l (some (place q)) (omega arith) (omega arith)) (keep (owns o) qs) h

-- as many as there are rows is enough
pub runs_all : (w : List ℕ) (n m : ℕ) → n ≤ m → runs w (ranked_places w n) m 0 ≡ running_places w n
unfolding running_places runs
runs_all w n m h = sym (ordered_fewer (λ o k. owned o (row_fate (row_at w k))) (λ k. k) (ranked_places w n) m n (owner_told 0) (runs_most w n m) h)
