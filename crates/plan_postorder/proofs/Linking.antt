-- What each test tells of a change's owner, and each turn of the linking.
-- Assumes nothing.
use mathlib.Core.Path.{◌≡◌, refl, sym, ◌∙◌}
use mathlib.Core.Bool.{Bool, true, false, cond}
use mathlib.Core.List.{List, [], ◌∷◌, ◌++◌, append_assoc, append-nil}
use Prim.Native.Nat.{ℕ, zero, suc, ◌+◌, ◌*◌, ◌^◌, ◌≤◌, ◌<◌}
use native.Mathlib.Omega.{arith}
use lib.ListN.{length, get_or, set, take, drop, replicate, length-set, length-replicate, get_or-replicate, take-append-drop}
use lib.Seq.{drop_at, get_or-set_same, get_or-set_other}
use Rattle.std.specs.List.{push}
use Rattle.std.specs.Prelude.{None, Some}
use lib.Dec.{eqb}
use borrow.Author.Tests.{eqb-true, eqb-false, eq-eqb, ne_eqb}
use Rattle.orders.specs.Lists.{All, pick, total}
use Rattle.orders.specs.ListLaws.{All-perm}
use Rattle.definition.specs.Basics.{keep}
use Rattle.definition.specs.Planning.{own, dependent, discarded}
use Rattle.definition.specs.Running.{owned}
use Rattle.definition_laws.specs.Basics.{All-drop, All-keep, total_append}
use Rattle.definition_laws.specs.Sorting.{insert_perm}
use Rattle.record_changes.specs.ChangeRow.{row_of}
use Rattle.record_changes.specs.ChangeRowLaws.{row_at}
use Rattle.plan_sort.specs.Lists.{keep_cons}
use Rattle.plan_sort.specs.Rows.{row_fate}
use Rattle.plan_sort.specs.Sorting.{sort_from, comes_at, ranked_places}
use Rattle.plan_postorder.specs.Order.{owner_told, owned_at}
use Rattle.plan_postorder.specs.Counting.{times, times_sorted}
use Rattle.plan_postorder.specs.Links.{OwnerOf, Linked, Links, owned_by}

-- ── Owners ──────────────────────────────────────────────────────────────────────────────────────────────────

module _ (w : List ℕ) (k x : ℕ) (f : x ≡ get_or (drop (14 * k) w) 11 0) where
  pub owner_none : x ≡ 0 → OwnerOf w k (Some 0)
  unfolding owned_at owner_told row_fate row_at row_of owned
  owner_none e = (omega arith, λ p h. rw (← f, e) (go p))
    where
      go : (p : ℕ) → owned (owner_told p) own ≡ eqb 0 p
      go zero = refl
      go (suc i) = sym (ne_eqb 0 (suc i) (λ e. omega arith))

  module _ (n : x ≡ 0 → ⊥) where
    pub owner_discarded : (x ≡ 1 → ⊥) → OwnerOf w k None
    unfolding owned_at owner_told row_fate row_at row_of owned
    owner_discarded m = λ p h. rw (← f, ne_eqb x 0 n, ne_eqb x 1 m) (go p (get_or (drop (14 * k) w) 12 0))
      where
        go : (p y : ℕ) → owned (owner_told p) (discarded y) ≡ false
        go zero y = refl
        go (suc i) y = refl

    module _ (e : x ≡ 1) (y : ℕ) (g : y ≡ get_or (drop (14 * k) w) 12 0) where
      -- it is owned by the place y alone
      dependent_of : (p : ℕ) → p ≤ 256 → owned_at w p k ≡ owned (owner_told p) (dependent y)
      unfolding owned_at row_fate row_at row_of
      dependent_of p l = rw (← f, e, ← g)

      pub owner_dependent : y < 256 → OwnerOf w k (Some (y + 1))
      unfolding owner_told owned
      owner_dependent h = (omega arith, λ p l. dependent_of p l ∙ go p)
        where
          same : (i : ℕ) (b : Bool) → eqb i y ≡ b → b ≡ eqb (y + 1) (suc i)
          same i true e = sym (eq-eqb (y + 1) (suc i) (omega (arith, eqb-true i y e)))
          same i false e = sym (ne_eqb (y + 1) (suc i) (λ q. eqb-false i y e (omega arith)))

          go : (p : ℕ) → owned (owner_told p) (dependent y) ≡ eqb (y + 1) p
          go zero = sym (ne_eqb (y + 1) 0 (λ e. omega arith))
          go (suc i) = same i (eqb i y) refl

      pub owner_outside : 256 ≤ y → OwnerOf w k None
      unfolding owner_told owned
      owner_outside h = λ p l. dependent_of p l ∙ go p l
        where
          go : (p : ℕ) → p ≤ 256 → owned (owner_told p) (dependent y) ≡ false
          go zero l = refl
          go (suc i) l = ne_eqb i y (λ e. omega arith)

-- ── A turn ──────────────────────────────────────────────────────────────────────────────────────────────────

-- what stands at a place that is not linked may change
linked_set : (next : List ℕ) (k v x : ℕ) (qs : List ℕ) → All (λ q. q ≡ k → ⊥) qs → Linked next x qs → Linked (set next k v) x qs
linked_set next k v x [] a h = h
linked_set next k v x (q ∷ qs) a h = (h.0, h.1, rw (get_or-set_other next k q v 0 a.0) (linked_set next k v (get_or next q 0) qs a.1 h.2))

-- one more place, before all
links_cons : (w qs first next : List ℕ) (k o : ℕ) → Links (owned_by w qs) first next → k < 256 → All (λ q. q ≡ k → ⊥) qs → OwnerOf w k (Some o)
    → Links (owned_by w (k ∷ qs)) (set first o (k + 1)) (set next k (get_or first o 0))
links_cons w qs first next k o v b a t = record {
  firsts = simp length-set v.firsts;
  nexts = simp length-set v.nexts;
  told = λ p h. rw (keep_cons (owned_at w p) k qs, t.1 p h) (go p (v.told p h) (eqb o p) refl);
}
  where
    next' : List ℕ
    next' = set next k (get_or first o 0)

    stays : (p : ℕ) → Linked next (get_or first p 0) (owned_by w qs p) → Linked next' (get_or first p 0) (owned_by w qs p)
    stays p h = linked_set next k (get_or first o 0) (get_or first p 0) (owned_by w qs p) (All-keep (λ q. q ≡ k → ⊥) (owned_at w p) qs a) h

    go : (p : ℕ) → Linked next (get_or first p 0) (owned_by w qs p) → (c : Bool) → eqb o p ≡ c
        → Linked next' (get_or (set first o (k + 1)) p 0) (cond c (k ∷ owned_by w qs p) (owned_by w qs p))
    go p h true e =
        let same : o ≡ p = eqb-true o p e in
        let after : get_or next' k 0 ≡ get_or first p 0 = get_or-set_same next k (get_or first o 0) 0 (omega (arith, v.nexts)) ∙ rw same in
        (rw (← same, get_or-set_same first o (k + 1) 0 (omega (arith, v.firsts, t.0))) (omega arith), b, rw after (stays p h))
    go p h false e = rw (get_or-set_other first o p (k + 1) 0 (λ q. eqb-false o p e (sym q))) (stays p h)

-- one that never runs is linked nowhere
links_skip : (w qs first next : List ℕ) (k : ℕ) → Links (owned_by w qs) first next → OwnerOf w k None → Links (owned_by w (k ∷ qs)) first next
links_skip w qs first next k v t = record { firsts = v.firsts; nexts = v.nexts; told = λ p h. rw (keep_cons (owned_at w p) k qs, t p h) (v.told p h) }

-- a place that is not counted is not there
times_none : (y : ℕ) (l : List ℕ) → times y l ≡ 0 → All (λ q. q ≡ y → ⊥) l
unfolding total
times_none y [] h = tt
times_none y (x ∷ l) h = go (eqb x y) refl h (times_none y l)
  where
    go : (b : Bool) → eqb x y ≡ b → cond b 1 0 + times y l ≡ 0 → (times y l ≡ 0 → All (λ q. q ≡ y → ⊥) l) → All (λ q. q ≡ y → ⊥) (x ∷ l)
    go true e n r = absurd (omega arith)
    go false e n r = (eqb-false x y e, r (omega arith))

-- a place that is there once is not behind itself
once_behind : (y j : ℕ) (l r : List ℕ) → drop j l ≡ y ∷ r → times y l ≤ 1 → All (λ q. q ≡ y → ⊥) r
unfolding total
once_behind y j l r e h =
    let parts : times y l ≡ times y (take j l) + times y (y ∷ r) = rw (take-append-drop j l, e) at (total_append (λ q. eqb q y) (λ q. 1) (take j l) (drop j l)) in
    let one : times y (y ∷ r) ≡ 1 + times y r = rw (eq-eqb y y refl) in
    times_none y r (omega arith)

-- the n places from i on are below m
places_below : (comes : ℕ → ℕ → Bool) (m i n : ℕ) → i + n ≤ m → All (λ q. q < m) (sort_from comes i n)
unfolding sort_from
places_below comes m i zero h = tt
places_below comes m i (suc n) h = All-perm (λ q. q < m) (insert_perm comes i (sort_from comes (suc i) n)) (omega arith, places_below comes m (suc i) n (omega arith))

-- of the ranked places those on the left are still to be linked, the others are
pub record Linking (w ranked left first next : List ℕ) : Type 0 where
  pub behind : List ℕ
  pub parts : ranked ≡ left ++ behind
  pub links : Links (owned_by w behind) first next

pub linking_start : (w ranked left first next : List ℕ) → left ≡ ranked → first ≡ replicate 257 0 → length next ≡ 256 → Linking w ranked left first next
unfolding keep pick
linking_start w ranked left first next l e h = record {
  behind = [];
  parts = sym l ∙ sym (append-nil left);
  links = record {
    firsts = rw e (length-replicate {A = ℕ} 257 0);
    nexts = h;
    told = λ o b. rw e (get_or-replicate 257 o 0 0 (omega arith));
  };
}

pub linking_done : (w ranked left first next : List ℕ) → Linking w ranked left first next → length left ≡ 0 → Links (owned_by w ranked) first next
linking_done w ranked [] first next v h = rw v.parts v.links
linking_done w ranked (x ∷ left) first next v h = absurd (omega arith)

module _ {w ranked left first next : List ℕ} (v : Linking w ranked left first next) (few : length ranked ≤ 256) (e : ranked ≡ ranked_places w (length ranked)) (less : List ℕ) (k : ℕ) (l : left ≡ push less k) where
  parts : ranked ≡ less ++ (k ∷ v.behind)
  parts = v.parts ∙ rw l (append_assoc less (k ∷ []) v.behind)

  here : drop (length less) ranked ≡ k ∷ v.behind
  here = rw parts (drop_at less (k ∷ v.behind) (length less) refl)

  pub place_below : k < 256
  unfolding ranked_places
  place_below =
      let low : All (λ q. q < 256) ranked = rw e (places_below (comes_at true w) 256 0 (length ranked) (omega arith)) in
      (rw here at (All-drop (λ q. q < 256) (length less) ranked low)).0

  pub told_below : k + 1 < 2 ^ 32
  told_below = omega (arith, place_below)

  alone : All (λ q. q ≡ k → ⊥) v.behind
  unfolding ranked_places
  alone =
      let once : times k ranked ≤ 1 = rw e (times_sorted (comes_at true w) 0 (length ranked) k) in
      once_behind k (length less) ranked v.behind here once

  pub linking_next : {o : ℕ} → OwnerOf w k (Some o) → Linking w ranked less (set first o (k + 1)) (set next k (get_or first o 0))
  linking_next {o} t = record { behind = k ∷ v.behind; parts = parts; links = links_cons w v.behind first next k o v.links place_below alone t }

  -- one that never runs
  pub linking_skip : OwnerOf w k None → Linking w ranked less first next
  linking_skip t = record { behind = k ∷ v.behind; parts = parts; links = links_skip w v.behind first next k v.links t }
