-- What runs: every change that is not discarded, once. Of any changes, whatever planned them, whose dependents lead to changes without an owner.
-- Assumes nothing.
use Rattle.std.specs.Prelude.{◌≡◌, not, ◌⊎◌, ltb, length, get_or}
use Rattle.std.proofs.Math.Path.{refl, sym, ap}
use Rattle.std.proofs.Common.{◌∙◌, inl, inr, ne_eqb, ltb-true, lt-ltb, le-ltb}
use Rattle.std.proofs.Math.Bool.{Bool, true, false, cond}
use mathlib.Core.List.Permᴰ
use mathlib.Core.List.{List, [], ◌∷◌, ◌++◌, map, flat_map, Permᴰ}
use Rattle.std.proofs.Math.Option.{Option, none, some}
use Prim.Native.Nat.{ℕ, zero, suc, ◌+◌, ◌≤◌, ◌<◌}
use native.Mathlib.Omega.{arith}
use Rattle.std.proofs.Math.Dec.{eqb}
use Rattle.orders.specs.Lists.{All, pick, total}
use Rattle.orders.specs.ListLaws.{lt_or_le, map_append, All-map, All-perm, total_perm, total_none}
use Rattle.definition.specs.Basics.{keep, numbered, falling}
use Rattle.definition.specs.Elements.{Table}
use Rattle.definition.specs.Recording.{delete}
use Rattle.definition.specs.Planning.{key, Fate, own, dependent, discarded, is_discarded, Planned}
use Rattle.definition.specs.Running.{owned, ranked, order}
use Rattle.definition_laws.specs.Basics.{keep_yes, keep_no, up_from, All-append, All-keep, All-flatMap, total_append, total_add, total_zero, total_flat_map}
use Rattle.definition_laws.specs.Sorting.{map_falling, falling_perm}
use Rattle.account_laws.proofs.Counts.{times, times_cons, times_nil, perm_times, total_one_of, times_keep, times_up}

-- ── The order, as places ────────────────────────────────────────────────────────────────────────────────────

-- of N changes with these fates, each dependent one's owner is one of them, is not discarded, and stands at a lower level
pub record Led (f : ℕ → Fate) (N : ℕ) : Type 0 where
  pub level : ℕ → ℕ
  pub low : (x : ℕ) → x < N → level x < N
  pub owner : (x y : ℕ) → x < N → f x ≡ dependent y → (y < N) × (level y < level x) × (is_discarded (f y) ≡ false)

-- how many numbers below n pass the test
unfoldable passing : ℕ → (ℕ → Bool) → ℕ
passing zero p = 0
passing (suc n) p = cond (p n) 1 0 + passing n p

module _ (p q : ℕ → Bool) (h : (k : ℕ) → p k ≡ true → q k ≡ true) where
  one_passes : (k : ℕ) → cond (p k) 1 0 ≤ cond (q k) 1 0
  one_passes k = go (p k) refl
    where
      go : (b : Bool) → p k ≡ b → cond b 1 0 ≤ cond (q k) 1 0
      go true e = rw (h k e) (omega arith)
      go false e = omega arith

  passing_le : (n : ℕ) → passing n p ≤ passing n q
  unfolding passing
  passing_le zero = omega arith
  passing_le (suc n) = omega (arith, one_passes n, passing_le n)

  passing_lt : (n x : ℕ) → x < n → p x ≡ false → q x ≡ true → passing n p < passing n q
  unfolding passing
  passing_lt zero x b e f = absurd (omega arith)
  passing_lt (suc n) x b e f = go (lt_or_le x n) (λ b. passing_lt n x b e f)
    where
      go : (x < n) ⊎ (n ≤ x) → (x < n → passing n p < passing n q) → passing (suc n) p < passing (suc n) q
      go (inl l) r = omega (arith, one_passes n, r l)
      go (inr l) r = let z : x ≡ n = omega arith in rw (rw z at e, rw z at f) (omega (arith, passing_le n))

passing_all : (n : ℕ) → passing n (λ k. true) ≡ n
unfolding passing
passing_all zero = refl
passing_all (suc n) = omega (arith, passing_all n)

-- it is enough that some number falls from a dependent to its owner, however large: how many changes have a lower one is a level
pub led_by : (f : ℕ → Fate) (N : ℕ) (d : ℕ → ℕ) → ((x y : ℕ) → x < N → f x ≡ dependent y → (y < N) × (d y < d x) × (is_discarded (f y) ≡ false)) → Led f N
led_by f N d h = record { level = λ x. passing N (lower x); low = low; owner = owner }
  where
    lower : ℕ → ℕ → Bool
    lower x k = ltb (d k) (d x)

    low : (x : ℕ) → x < N → passing N (lower x) < N
    low x b = omega (arith, passing_lt (lower x) (λ k. true) (λ k e. refl) N x b (le-ltb (d x) (d x) (omega arith)) refl, passing_all N)

    owner : (x y : ℕ) → x < N → f x ≡ dependent y → (y < N) × (passing N (lower y) < passing N (lower x)) × (is_discarded (f y) ≡ false)
    owner x y b e =
        let (u, v, w) = h x y b e in
        (u, passing_lt (lower y) (lower x) (λ k e. lt-ltb (d k) (d x) (omega (arith, ltb-true (d k) (d y) e))) N y u (le-ltb (d y) (d y) (omega arith)) (lt-ltb (d y) (d x) v), w)

-- what g tells of an owner, 0 if there is none
abbrev of_owner : (ℕ → ℕ) → Fate → ℕ
of_owner g own = 0
of_owner g (dependent k) = g k
of_owner g (discarded k) = 0

module _ (f : ℕ → Fate) (ks : List ℕ) where
  -- of the places ks, those of one owner, each after its own dependents: `order` without the changes
  unfoldable runs : ℕ → Option ℕ → List ℕ
  runs zero o = []
  runs (suc n) o = flat_map (λ k. runs n (some k) ++ (k ∷ [])) (keep (λ k. owned o (f k)) ks)

  -- how often x stands below an owner, at most n levels down: as its own, and as often as x's owner does
  abbrev below : ℕ → Option ℕ → ℕ → ℕ
  below zero o x = 0
  below (suc n) o x = cond (owned o (f x)) 1 0 + of_owner (below n o) (f x)

  runs_all : (P : ℕ → Type 0) → All P ks → (n : ℕ) (o : Option ℕ) → All P (runs n o)
  unfolding runs
  runs_all P h zero o = tt
  runs_all P h (suc n) o =
      All-flatMap P P (λ k. runs n (some k) ++ (k ∷ [])) (λ k q. All-append P (runs n (some k)) (k ∷ []) (runs_all P h n (some k)) (q, tt)) (keep (λ k. owned o (f k)) ks)
      (All-keep P (λ k. owned o (f k)) ks h)

  module _ (N : ℕ) (once : (x : ℕ) → x < N → times x ks ≡ 1) (led : Led f N) where
    one_owned : (o : Option ℕ) (x : ℕ) → x < N → total (λ k. owned o (f k)) (λ k. cond (eqb k x) 1 0) ks ≡ cond (owned o (f x)) 1 0
    one_owned o x h = total_one_of (λ k. owned o (f k)) x ks ∙ ap (λ n. cond (owned o (f x)) n 0) (once x h)

    -- x stands below the changes of an owner together as often as x's owner stands below that owner
    below_owned : (n : ℕ) (o : Option ℕ) (x : ℕ) → x < N → total (λ k. owned o (f k)) (λ k. below n (some k) x) ks ≡ of_owner (below n o) (f x)
    unfolding owned
    below_owned zero o x h = total_zero (λ k. owned o (f k)) ks ∙ go (f x)
      where
        go : (g : Fate) → 0 ≡ of_owner (λ y. 0) g
        go own = refl
        go (dependent y) = refl
        go (discarded y) = refl
    below_owned (suc n) o x h = go (f x) refl (λ y b. below_owned n o y b)
      where
        p : ℕ → Bool
        p k = owned o (f k)

        go : (g : Fate) → f x ≡ g → ((y : ℕ) → y < N → total p (λ k. below n (some k) y) ks ≡ of_owner (below n o) (f y)) → total p (λ k. cond (owned (some k) g) 1 0 + of_owner (below n (some k)) g) ks ≡ of_owner (below (suc n) o) g
        go own e r = total_zero p ks
        go (dependent y) e r =
            let b = (led.owner x y h e).0 in
            total_add p (λ k. cond (eqb k y) 1 0) (λ k. below n (some k) y) ks ∙ rw (one_owned o y b, r y b)
        go (discarded y) e r = total_zero p ks

    -- so often it runs
    runs_times : (n : ℕ) (o : Option ℕ) (x : ℕ) → x < N → times x (runs n o) ≡ below n o x
    unfolding runs
    runs_times zero o x h = times_nil x
    runs_times (suc n) o x h =
        let p : ℕ → Bool = λ k. owned o (f k) in
        total_flat_map (λ k. eqb k x) (λ k. 1) p (λ k. runs n (some k) ++ (k ∷ [])) ks
        ∙ (ap (λ (g : ℕ → ℕ). total p g ks) (λ i k. one k (runs_times n (some k) x h) i)
        ∙ (total_add p (λ k. cond (eqb k x) 1 0) (λ k. below n (some k) x) ks ∙ rw (one_owned o x h, below_owned n o x h)))
      where
        one : (k : ℕ) → times x (runs n (some k)) ≡ below n (some k) x → times x (runs n (some k) ++ (k ∷ [])) ≡ cond (eqb k x) 1 0 + below n (some k) x
        one k e = total_append (λ k. eqb k x) (λ k. 1) (runs n (some k)) (k ∷ []) ∙ omega (arith, e, times_cons x k [], times_nil x)

    -- without an owner above them: those that are not discarded, once
    below_none : (n x : ℕ) → x < N → led.level x < n → below n none x ≡ cond (not (is_discarded (f x))) 1 0
    unfolding owned is_discarded
    below_none zero x h b = absurd (omega arith)
    below_none (suc n) x h b = go (f x) refl (λ y a c. below_none n y a c)
      where
        go : (g : Fate) → f x ≡ g → ((y : ℕ) → y < N → led.level y < n → below n none y ≡ cond (not (is_discarded (f y))) 1 0) → cond (owned none g) 1 0 + of_owner (below n none) g ≡ cond (not (is_discarded g)) 1 0
        go own e r = refl
        go (dependent y) e r = let (a, c, q) = led.owner x y h e in omega (arith, rw q at (r y a (omega arith)))
        go (discarded y) e r = refl

-- ── The places that run ─────────────────────────────────────────────────────────────────────────────────────

up_below : (k n : ℕ) → All (λ x. x < k + n) (up_from k n)
unfolding up_from
up_below k zero = tt
up_below k (suc n) = (omega arith, All-map (λ x h. omega arith) (up_from (suc k) n) (up_below (suc k) n))

times_beyond : (N y : ℕ) (l : List ℕ) → N ≤ y → All (λ x. x < N) l → times y l ≡ 0
times_beyond N y l b h = total_none (λ x. eqb x y) (λ x. 1) l (All-map (λ x k. ne_eqb x y (λ e. omega arith)) l h)

module _ (f : ℕ → Fate) (N : ℕ) (led : Led f N) (ks : List ℕ) (same : Permᴰ (up_from 0 N) ks) where
  once : (x : ℕ) → x < N → times x ks ≡ 1
  once x h = sym (total_perm (λ k. eqb k x) (λ k. 1) same) ∙ times_up x 0 N (omega arith) (omega arith)

  -- in whatever order the places are taken, those run that are not discarded, each once
  runs_perm : Permᴰ (keep (λ k. not (is_discarded (f k))) (up_from 0 N)) (runs f ks N none)
  runs_perm = perm_times (keep stays (up_from 0 N)) (runs f ks N none) (λ y. go y (lt_or_le y N))
    where
      stays : ℕ → Bool
      stays k = not (is_discarded (f k))

      low : All (λ k. k < N) (up_from 0 N)
      low = All-map (λ x h. omega arith) (up_from 0 N) (up_below 0 N)

      go : (y : ℕ) → (y < N) ⊎ (N ≤ y) → times y (keep stays (up_from 0 N)) ≡ times y (runs f ks N none)
      go y (inl h) =
          times_keep stays y (up_from 0 N)
          ∙ (ap (λ n. cond (stays y) n 0) (times_up y 0 N (omega arith) (omega arith))
          ∙ sym (runs_times f ks N once led N none y h ∙ below_none f ks N once led N y h (led.low y h)))
      go y (inr h) =
          times_beyond N y (keep stays (up_from 0 N)) h (All-keep (λ k. k < N) stays (up_from 0 N) low)
          ∙ sym (times_beyond N y (runs f ks N none) h (runs_all f ks (λ k. k < N) (All-perm (λ k. k < N) same low) N none))

-- ── The changes that run ────────────────────────────────────────────────────────────────────────────────────

module _ (g : ℕ → Planned) where
  -- a place with its change
  abbrev placed : ℕ → ℕ × Planned
  placed k = (k, g k)

  -- lists joined, of those that pass, told by places
  joined : (p : ℕ → Bool) (q : ℕ × Planned → Bool) (h : ℕ → List ℕ) (r : ℕ × Planned → List Planned) → ((k : ℕ) → p k ≡ q (placed k)) → ((k : ℕ) → r (placed k) ≡ map g (h k)) → (ks : List ℕ)
      → flat_map r (keep q (map placed ks)) ≡ map g (flat_map h (keep p ks))
  unfolding flat_map keep pick
  joined p q h r a b [] = refl
  joined p q h r a b (k ∷ ks) = go (p k) refl (joined p q h r a b ks)
    where
      go : (t : Bool) → p k ≡ t → flat_map r (keep q (map placed ks)) ≡ map g (flat_map h (keep p ks)) → flat_map r (keep q (placed k ∷ map placed ks)) ≡ map g (flat_map h (keep p (k ∷ ks)))
      go true e i = rw (keep_yes p k ks e, keep_yes q (placed k) (map placed ks) (sym (a k) ∙ e)) (sym (map_append g (h k) (flat_map h (keep p ks)) ∙ rw (← b k, ← i)))
      go false e i = rw (keep_no p k ks e, keep_no q (placed k) (map placed ks) (sym (a k) ∙ e)) i

  order_places : (ks : List ℕ) (n : ℕ) (o : Option ℕ) → order (map placed ks) n o ≡ map g (runs (λ k. (g k).fate) ks n o)
  unfolding order runs
  order_places ks zero o = refl
  order_places ks (suc n) o =
      joined (λ k. owned o (g k).fate) (λ q. owned o q.1.fate) (λ k. runs (λ k. (g k).fate) ks n (some k) ++ (k ∷ [])) (λ q. order (map placed ks) n (some q.0) ++ (q.1 ∷ []))
      (λ k. refl) (λ k. sym (map_append g (runs (λ k. (g k).fate) ks n (some k)) (k ∷ []) ∙ rw (order_places ks n (some k)))) ks

  kept_places : (p : Planned → Bool) (ks : List ℕ) → keep p (map g ks) ≡ map g (keep (λ k. p (g k)) ks)
  unfolding keep pick
  kept_places p [] = refl
  kept_places p (k ∷ ks) = go (p (g k)) refl (kept_places p ks)
    where
      go : (t : Bool) → p (g k) ≡ t → keep p (map g ks) ≡ map g (keep (λ k. p (g k)) ks) → keep p (g k ∷ map g ks) ≡ map g (keep (λ k. p (g k)) (k ∷ ks))
      go true e i = rw (keep_yes p (g k) (map g ks) e, keep_yes (λ k. p (g k)) k ks e, i)
      go false e i = rw (keep_no p (g k) (map g ks) e, keep_no (λ k. p (g k)) k ks e) i

  -- all places, and all with their changes
  numbered_places : (n : ℕ) (l : List Planned) (d : Planned) → ((i : ℕ) → i < length l → get_or l i d ≡ g (n + i)) → (numbered n l ≡ map placed (up_from n (length l))) × (l ≡ map g (up_from n (length l)))
  unfolding numbered up_from
  numbered_places n [] d h = (refl, refl)
  numbered_places n (x ∷ l) d h =
      let here : x ≡ g n = h 0 (omega arith) ∙ (let z : n + 0 ≡ n = omega arith in ap g z) in
      let r = numbered_places (suc n) l d (λ i b. h (suc i) (omega arith) ∙ (let z : n + suc i ≡ suc n + i = omega arith in ap g z)) in
      (rw (← here, ← r.0), rw (← here, ← r.1))

ranked_places_lem : (T : Table) (g : ℕ → Planned) (ps : List Planned) (ks : List ℕ) → numbered 0 ps ≡ map (placed g) ks → ranked T ps ≡ map (placed g) (falling (λ k. key T (g k).change) ks)
unfolding ranked
ranked_places_lem T g ps ks e = ap (falling (λ (q : ℕ × Planned). key T q.1.change)) e ∙ sym (map_falling (placed g) (λ k. key T (g k).change) (λ q. key T q.1.change) (λ k. refl) ks)

-- ── Theorem ─────────────────────────────────────────────────────────────────────────────────────────────────

-- where there is no change
abbrev pub nothing : Planned
nothing = record { change = delete 0; fate = own; rule = 0 }

-- what becomes of the change at place i
abbrev pub fate_of : List Planned → ℕ → Fate
fate_of ps i = (get_or ps i nothing).fate

-- WHAT RUNS IS A PERMUTATION OF WHAT IS NOT DISCARDED
pub order_permutes : (T : Table) (ps : List Planned) → Led (fate_of ps) (length ps) → Permᴰ (keep (λ p. not (is_discarded p.fate)) ps) (order (ranked T ps) (length ps) none)
order_permutes T ps h =
    let N : ℕ = length ps in
    let g : ℕ → Planned = λ k. get_or ps k nothing in
    let stays : Planned → Bool = λ p. not (is_discarded p.fate) in
    let ks : List ℕ = falling (λ k. key T (g k).change) (up_from 0 N) in
    let all : (numbered 0 ps ≡ map (placed g) (up_from 0 N)) × (ps ≡ map g (up_from 0 N)) = numbered_places g 0 ps nothing (λ i b. let z : i ≡ 0 + i = omega arith in ap g z) in
    let kept : keep stays ps ≡ map g (keep (λ k. stays (g k)) (up_from 0 N)) = ap (keep stays) all.1 ∙ kept_places g stays (up_from 0 N) in
    let ran : order (ranked T ps) N none ≡ map g (runs (λ k. (g k).fate) ks N none) = ap (λ qs. order qs N none) (ranked_places_lem T g ps (up_from 0 N) all.0) ∙ order_places g ks N none in
    rw (kept, ran) (Permᴰ.map g (runs_perm (λ k. (g k).fate) N h ks (falling_perm (λ k. key T (g k).change) (up_from 0 N))))
