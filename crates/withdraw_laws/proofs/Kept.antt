-- A replacement or run is kept exactly if it overlaps no kept one of a higher number; and the change named is the right one.
-- Assumes nothing.
use Rattle.std.specs.Prelude.{◌≡◌, ◌↔◌, ◌⊎◌, ◌&&◌, ◌||◌, ℕ, ◌≤◌, ◌<◌}
use Rattle.std.proofs.Math.Path.{refl, ap}
use Rattle.std.proofs.Common.{sym, ◌∙◌}
use Rattle.std.proofs.Math.Logic.{inl, inr}
use Rattle.std.proofs.Math.Bool.{Bool, true, false, cond, or-true}
use mathlib.Core.List.Memᴰ
use mathlib.Core.List.Permᴰ
use mathlib.Core.List.{List, [], ◌∷◌, ◌++◌, Memᴰ}
use Rattle.std.proofs.Math.Option.{Option, none, some, map}
use native.Mathlib.Omega.{arith}
use Rattle.std.proofs.Math.Dec.{ltb, eqb}
use Rattle.std.proofs.Math.ListN.{length, get_elem?}
use borrow.Author.Tests.{ltb-true, lt-ltb, le-ltb, eqb-true, eq-eqb}
use Rattle.orders.specs.Lists.{pick, All, Pairs}
use Rattle.orders.specs.ListLaws.{bool_absurd, either_true, both_true, some_inj, none_some, map_some, lt_or_le, get_mem, get_lt, lt_get, get_map, All-map, All-map₂, All-mem, All-perm, any_mem, mem_any, mem_pick}
use Rattle.definition.specs.Basics.{any, is_some, keep, numbered, lower, insert_by, sort_by, falling}
use Rattle.definition.specs.Elements.{Table, tree}
use Rattle.definition.specs.Recording.{Recorded, Change}
use Rattle.definition.specs.Planning.{target, from, to, parent_depth, peers}
use Rattle.definition.specs.EdgeRule.{removes}
use Rattle.definition_laws.specs.Basics.{keep_yes, keep_no, All-append, append_All, All-keep, get_numbered, numbered_get, first_passes}
use Rattle.definition_laws.specs.Sorting.{insert_first, insert_later, insert_perm, sort_all, falling_perm, at_first, at_rest, lower_why, lower_not_why}
use Rattle.definition_laws.specs.Performed.{numbered_rising}
use Rattle.definition.specs.Withdrawing.{Numbered, replaces, crosses, shares, overlapping, gives_way, stronger, keeping, kept, withdrawn_by, withdrawals}
use Rattle.withdraw_laws.specs.Lists.{keep_passes, first_none, none_first, first_mem, first_before}
use Rattle.withdraw_laws.specs.Words.{Overlapping, GivesWay, Kept, Under}

-- ── The order in which they are taken ───────────────────────────────────────────────────────────────────────

-- x is taken before y: it has the higher number, or the same and is sorted before it
abbrev Before : Numbered → Numbered → Type 0
Before x y = (y.1.rule < x.1.rule) ⊎ ((y.1.rule ≡ x.1.rule) × (x.0 < y.0))

abbrev comes : Numbered → Numbered → Bool
comes x y = lower (y.1.rule ∷ []) (x.1.rule ∷ [])

-- not the weaker, and sorted before it
ahead : (x y : Numbered) → y.1.rule ≤ x.1.rule → x.0 < y.0 → Before x y
ahead x y h k = go (lt_or_le y.1.rule x.1.rule)
  where
    go : (y.1.rule < x.1.rule) ⊎ (x.1.rule ≤ y.1.rule) → Before x y
    go (inl b) = inl b
    go (inr b) = inr (omega arith, k)

not_weaker : (x y : Numbered) → Before x y → y.1.rule ≤ x.1.rule
not_weaker x y (inl b) = omega arith
not_weaker x y (inr b) = omega (arith, b.0)

higher : (m n : ℕ) → lower (m ∷ []) (n ∷ []) ≡ true → m < n
unfolding lower
higher m n e = elim (lower_why m n [] [] e) [ at_first h ↦ h | at_rest h r ↦ bool_absurd r refl ]

insert_before : (x : Numbered) (l : List Numbered) → All (λ y. x.0 < y.0) l → Pairs Before l → Pairs Before (insert_by comes x l)
unfolding insert_by
insert_before x [] h k = (tt, tt)
insert_before x (y ∷ l) h k = go (comes y x) refl (insert_before x l h.1 k.1)
  where
    go : (b : Bool) → comes y x ≡ b → Pairs Before (insert_by comes x l) → Pairs Before (insert_by comes x (y ∷ l))
    go true e r = rw (insert_later comes x y l e) (All-perm (Before y) (insert_perm comes x l) (inl (higher x.1.rule y.1.rule e), k.0), r)
    go false e r =
        let low : y.1.rule ≤ x.1.rule = (lower_not_why x.1.rule y.1.rule [] [] e).0 in
        rw (insert_first comes x y l e)
        ((ahead x y low h.0, All-map₂ (λ z n b. ahead x z (omega (arith, not_weaker y z b)) n) l h.1 k.0), k)

sort_before : (l : List Numbered) → Pairs (λ x y. x.0 < y.0) l → Pairs Before (sort_by comes l)
unfolding sort_by
sort_before [] h = tt
sort_before (x ∷ l) h = insert_before x (sort_by comes l) (sort_all comes (λ y. x.0 < y.0) l h.0) (sort_before l h.1)

-- ── What is kept ────────────────────────────────────────────────────────────────────────────────────────────

module _ (T : Table) where
  -- no change gives way to one of no higher number
  pub no_way : (c d : Recorded) → d.rule ≤ c.rule → gives_way T c d ≡ false
  unfolding gives_way
  no_way c d h = rw (le-ltb c.rule d.rule h) refl

  -- one taken is kept, or it is not
  keeping_yes : (ks : List Numbered) (c : Numbered) (cs : List Numbered) → stronger T ks c.1 ≡ none → keeping T ks (c ∷ cs) ≡ keeping T (ks ++ (c ∷ [])) cs
  unfolding keeping is_some
  keeping_yes ks c cs e = rw (e, is_some)

  keeping_no : (ks : List Numbered) (c d : Numbered) (cs : List Numbered) → stronger T ks c.1 ≡ some d → keeping T ks (c ∷ cs) ≡ keeping T ks cs
  unfolding keeping is_some
  keeping_no ks c d cs e = rw (e, is_some)

  -- what all of them have, those kept have; and they stand in the order in which they are taken
  pub keeping_all : (P : Numbered → Type 0) (ks cs : List Numbered) → All P ks → All P cs → All P (keeping T ks cs)
  unfolding keeping
  keeping_all P ks [] h k = h
  keeping_all P ks (c ∷ cs) h k = keeping_all P (cond (is_some (stronger T ks c.1)) ks (ks ++ (c ∷ []))) cs (go (is_some (stronger T ks c.1))) k.1
    where
      go : (b : Bool) → All P (cond b ks (ks ++ (c ∷ [])))
      go true = h
      go false = All-append P ks (c ∷ []) h (k.0, tt)

  Pairs-join : (R : Numbered → Numbered → Type 0) (ks : List Numbered) (c : Numbered) → Pairs R ks → All (λ k. R k c) ks → Pairs R (ks ++ (c ∷ []))
  Pairs-join R [] c h k = (tt, tt)
  Pairs-join R (x ∷ ks) c h k = (All-append (R x) ks (c ∷ []) h.0 (k.0, tt), Pairs-join R ks c h.1 k.1)

  keeping_pairs : (R : Numbered → Numbered → Type 0) (ks cs : List Numbered) → Pairs R ks → All (λ k. All (R k) cs) ks → Pairs R cs → Pairs R (keeping T ks cs)
  unfolding keeping
  keeping_pairs R ks [] h k q = h
  keeping_pairs R ks (c ∷ cs) h k q = let (a, b) = go (is_some (stronger T ks c.1)) in keeping_pairs R (cond (is_some (stronger T ks c.1)) ks (ks ++ (c ∷ []))) cs a b q.1
    where
      go : (b : Bool) → Pairs R (cond b ks (ks ++ (c ∷ []))) × All (λ x. All (R x) cs) (cond b ks (ks ++ (c ∷ [])))
      go true = (h, All-map (λ x a. a.1) ks k)
      go false = (Pairs-join R ks c h (All-map (λ x a. a.0) ks k), All-append (λ x. All (R x) cs) ks (c ∷ []) (All-map (λ x a. a.1) ks k) (q.0, tt))

  -- none of those kept gives way to one kept before it
  keeping_apart : (ks cs : List Numbered) → Pairs (λ x y. gives_way T y.1 x.1 ≡ false) ks → Pairs (λ x y. gives_way T y.1 x.1 ≡ false) (keeping T ks cs)
  unfolding keeping is_some stronger
  keeping_apart ks [] h = h
  keeping_apart ks (c ∷ cs) h = keeping_apart (cond (is_some (stronger T ks c.1)) ks (ks ++ (c ∷ []))) cs (go (stronger T ks c.1) refl)
    where
      go : (o : Option Numbered) → stronger T ks c.1 ≡ o → Pairs (λ x y. gives_way T y.1 x.1 ≡ false) (cond (is_some o) ks (ks ++ (c ∷ [])))
      go none e = Pairs-join (λ x y. gives_way T y.1 x.1 ≡ false) ks c h (first_none (λ d. gives_way T c.1 d.1) ks e)
      go (some d) e = h

  -- those kept so far are kept
  keeping_mem : (x : Numbered) (ks cs : List Numbered) → Memᴰ x ks → Memᴰ x (keeping T ks cs)
  unfolding keeping
  keeping_mem x ks [] m = m
  keeping_mem x ks (c ∷ cs) m = keeping_mem x (cond (is_some (stronger T ks c.1)) ks (ks ++ (c ∷ []))) cs (go (is_some (stronger T ks c.1)))
    where
      go : (b : Bool) → Memᴰ x (cond b ks (ks ++ (c ∷ [])))
      go true = m
      go false = Memᴰ.append_left (c ∷ []) m

  keeping_front : (P : Numbered → Type 0) (ks cs : List Numbered) → All P (keeping T ks cs) → All P ks
  unfolding keeping
  keeping_front P ks [] h = h
  keeping_front P ks (c ∷ cs) h = go (is_some (stronger T ks c.1)) (keeping_front P (cond (is_some (stronger T ks c.1)) ks (ks ++ (c ∷ []))) cs h)
    where
      go : (b : Bool) → All P (cond b ks (ks ++ (c ∷ []))) → All P ks
      go true a = a
      go false a = (append_All P ks (c ∷ []) a).0

  -- and one that gives way to none of those kept is one of them
  keeping_found : (ks cs : List Numbered) → All (λ c. stronger T (keeping T ks cs) c.1 ≡ none → Memᴰ c (keeping T ks cs)) cs
  unfolding keeping is_some stronger
  keeping_found ks [] = tt
  keeping_found ks (c ∷ cs) = (go (stronger T ks c.1) refl, keeping_found (cond (is_some (stronger T ks c.1)) ks (ks ++ (c ∷ []))) cs)
    where
      go : (o : Option Numbered) → stronger T ks c.1 ≡ o → stronger T (keeping T (cond (is_some o) ks (ks ++ (c ∷ []))) cs) c.1 ≡ none → Memᴰ c (keeping T (cond (is_some o) ks (ks ++ (c ∷ []))) cs)
      go none e g = keeping_mem c (ks ++ (c ∷ [])) cs (Memᴰ.append_right ks (Memᴰ.head refl))
      go (some d) e g =
          let p : Numbered → Bool = λ d. gives_way T c.1 d.1 in
          none_some (sym (none_first p ks (keeping_front (λ d. p d ≡ false) ks cs (first_none p (keeping T ks cs) g))) ∙ e)

  -- ── Of all ────────────────────────────────────────────────────────────────────────────────────────────────

  -- two relations at once; one that holds both ways between each two, and of each with itself, holds between all
  Pairs-both : (R S : Numbered → Numbered → Type 0) (l : List Numbered) → Pairs R l → Pairs S l → Pairs (λ x y. R x y × S x y) l
  Pairs-both R S [] h k = tt
  Pairs-both R S (x ∷ l) h k = (All-map₂ (λ y a b. (a, b)) l h.0 k.0, Pairs-both R S l h.1 k.1)

  all_pairs : (A : Numbered → Numbered → Type 0) → ((x : Numbered) → A x x) → (l : List Numbered) → Pairs (λ x y. A x y × A y x) l → All (λ x. All (A x) l) l
  all_pairs A own [] h = tt
  all_pairs A own (x ∷ l) h = ((own x, All-map (λ y a. a.0) l h.0), All-map₂ (λ y a b. (a.1, b)) l h.0 (all_pairs A own l h.1))

  Pairs-map : {R S : Numbered → Numbered → Type 0} → ((x y : Numbered) → R x y → S x y) → (l : List Numbered) → Pairs R l → Pairs S l
  Pairs-map f [] h = tt
  Pairs-map f (x ∷ l) h = (All-map (f x) l h.0, Pairs-map f l h.1)

  mem_keep : (p : Numbered → Bool) (l : List Numbered) (x : Numbered) → Memᴰ x l → p x ≡ true → Memᴰ x (keep p l)
  unfolding keep
  mem_keep p l x m e = mem_pick (λ y. cond (p y) (some y) none) l x x m (rw e)

  Pairs-keep : (R : Numbered → Numbered → Type 0) (p : Numbered → Bool) (l : List Numbered) → Pairs R l → Pairs R (keep p l)
  unfolding keep pick
  Pairs-keep R p [] h = tt
  Pairs-keep R p (x ∷ l) h = go (p x) refl (Pairs-keep R p l h.1)
    where
      go : (b : Bool) → p x ≡ b → Pairs R (keep p l) → Pairs R (keep p (x ∷ l))
      go true e r = rw (keep_yes p x l e) (All-keep (R x) p l h.0, r)
      go false e r = rw (keep_no p x l e) r

  mem_all : (P : Numbered → Type 0) (l : List Numbered) → ((x : Numbered) → Memᴰ x l → P x) → All P l
  mem_all P [] f = tt
  mem_all P (x ∷ l) f = (f x (Memᴰ.head refl), mem_all P l (λ y m. f y (Memᴰ.tail m)))

  module _ (rs : List Recorded) where
    -- the replacements and runs with their numbers, and as they are taken
    abbrev removing : List Numbered
    removing = keep (λ c. replaces c.1.change) (numbered 0 rs)

    abbrev taken : List Numbered
    taken = falling (λ c. c.1.rule ∷ []) removing

    taken_before : Pairs Before taken
    unfolding falling
    taken_before = sort_before removing (Pairs-keep (λ x y. x.0 < y.0) (λ c. replaces c.1.change) (numbered 0 rs) (numbered_rising 0 rs).1)

    -- those kept, in their order
    ks : List Numbered
    ks = kept T rs

    kept_before : Pairs Before ks
    unfolding ks kept
    kept_before = keeping_pairs Before [] taken tt tt taken_before

    -- each is one of the changes, with its number, and is a replacement or run
    kept_one : All (λ d. (get_elem? rs d.0 ≡ some d.1) × (replaces d.1.change ≡ true)) ks
    unfolding ks kept
    kept_one =
        let P : Numbered → Type 0 = λ d. get_elem? rs d.0 ≡ some d.1 in
        let at : All P (numbered 0 rs) = mem_all P (numbered 0 rs) (λ q m. let (i, a, b) = numbered_get 0 rs q m in let z : q.0 ≡ i = omega arith in rw z b) in
        let test : Numbered → Bool = λ c. replaces c.1.change in
        let both : All (λ d. P d × (test d ≡ true)) removing = All-map₂ (λ d a b. (a, b)) removing (All-keep P test (numbered 0 rs) at) (keep_passes test (numbered 0 rs)) in
        keeping_all (λ d. P d × (test d ≡ true)) [] taken tt (All-perm (λ d. P d × (test d ≡ true)) (falling_perm (λ c. c.1.rule ∷ []) removing) both)

    -- none of them gives way to another
    kept_stand : All (λ d. stronger T ks d.1 ≡ none) ks
    unfolding ks kept stronger
    kept_stand =
        let A : Numbered → Numbered → Type 0 = λ x y. gives_way T x.1 y.1 ≡ false in
        let apart : Pairs (λ x y. A y x) ks = keeping_apart [] taken tt in
        let later : Pairs (λ x y. A x y × A y x) ks = Pairs-map (λ x y h. (no_way x.1 y.1 (not_weaker x y h.0), h.1)) ks (Pairs-both Before (λ x y. A y x) ks kept_before apart) in
        All-map (λ x h. none_first (λ d. gives_way T x.1 d.1) ks h) ks (all_pairs A (λ x. no_way x.1 x.1 (omega arith)) ks later)

    -- and each replacement or run that gives way to none of them is one
    kept_found : (i : ℕ) (r : Recorded) → get_elem? rs i ≡ some r → replaces r.change ≡ true → stronger T ks r ≡ none → Memᴰ (i, r) ks
    unfolding ks kept
    kept_found i r e f g =
        let Q : Numbered → Type 0 = λ c. stronger T ks c.1 ≡ none → Memᴰ c ks in
        let all : All Q removing = All-perm Q (Permᴰ.symm (falling_perm (λ c. c.1.rule ∷ []) removing)) (keeping_found [] taken) in
        All-mem Q removing (i, r) all (mem_keep (λ c. replaces c.1.change) (numbered 0 rs) (i, r) (get_mem (numbered 0 rs) i (i, r) (get_numbered 0 i rs i r (omega arith) e)) f) g

    -- what is said of the change at a place
    at_place : (i : ℕ) (r : Recorded) → get_elem? rs i ≡ some r → get_elem? (withdrawals T rs) i ≡ some (withdrawn_by T ks r)
    unfolding withdrawals ks
    at_place i r e = get_map (withdrawn_by T (kept T rs)) rs i r e

    -- a replacement or run stays exactly if it gives way to none of those kept
    stays_free : (i : ℕ) (r : Recorded) → get_elem? rs i ≡ some r → replaces r.change ≡ true → (get_elem? (withdrawals T rs) i ≡ some none) ↔ (stronger T ks r ≡ none)
    unfolding withdrawn_by
    stays_free i r e f = (λ s. out (stronger T ks r) (some_inj (sym (at_place i r e ∙ ap {B = Option (Option ℕ)} some (rw f)) ∙ s)), λ g. at_place i r e ∙ ap {B = Option (Option ℕ)} some (rw (f, g)))
      where
        out : (o : Option Numbered) → map (λ d. d.0) o ≡ none → o ≡ none
        out none q = refl
        out (some d) q = none_some (sym q)

    -- those kept are those of the list
    kept_is : All (λ d. Kept T rs d.0 d.1) ks
    kept_is = All-map₂ (λ d a g. record { at = a.0; replaces = a.1; stays = (stays_free d.0 d.1 a.0 a.1).1 g }) ks kept_one kept_stand

    is_kept : (j : ℕ) (s : Recorded) → Kept T rs j s → Memᴰ (j, s) ks
    is_kept j s k = kept_found j s k.at k.replaces ((stays_free j s k.at k.replaces).0 k.stays)

  -- ── Overlap, as a statement ───────────────────────────────────────────────────────────────────────────────

  pub shares_element : (c d : Change) → (shares T c d ≡ true) ↔ ((e : ℕ) × (e < length T) × (removes T c e ≡ true) × (removes T d e ≡ true))
  unfolding shares
  shares_element c d = (there, back)
    where
      there : any (λ e. removes T c e.0 && removes T d e.0) (numbered 0 T) ≡ true → (e : ℕ) × (e < length T) × (removes T c e ≡ true) × (removes T d e ≡ true)
      there q =
          let (x, m, p) = any_mem (λ e. removes T c e.0 && removes T d e.0) (numbered 0 T) q in
          let (i, a, b) = numbered_get 0 T x m in
          let (u, v) = both_true (removes T c x.0) (removes T d x.0) p in
          (x.0, omega (arith, get_lt T i b), u, v)

      back : (e : ℕ) × (e < length T) × (removes T c e ≡ true) × (removes T d e ≡ true) → any (λ e. removes T c e.0 && removes T d e.0) (numbered 0 T) ≡ true
      back (e, h, p, q) =
          let (r, a) = lt_get T e h in
          mem_any (λ e. removes T c e.0 && removes T d e.0) (numbered 0 T) (e, r) (get_mem (numbered 0 T) e (e, r) (get_numbered 0 e T e r (omega arith) a)) (rw (p, q))

  overlapping_is : (c d : Change) → (overlapping T c d ≡ true) ↔ Overlapping T c d
  unfolding overlapping crosses
  overlapping_is c d = (λ q. there (either_true (ltb (from T c) (to T d) && ltb (from T d) (to T c)) (shares T c d) q), back)
    where
      there : ((ltb (from T c) (to T d) && ltb (from T d) (to T c)) ≡ true) ⊎ (shares T c d ≡ true) → Overlapping T c d
      there (inl q) = let (a, b) = both_true (ltb (from T c) (to T d)) (ltb (from T d) (to T c)) q in inl (ltb-true (from T c) (to T d) a, ltb-true (from T d) (to T c) b)
      there (inr q) = inr ((shares_element c d).0 q)

      back : Overlapping T c d → ((ltb (from T c) (to T d) && ltb (from T d) (to T c)) || shares T c d) ≡ true
      back (inl (a, b)) = rw (lt-ltb (from T c) (to T d) a, lt-ltb (from T d) (to T c) b)
      back (inr s) = rw ((shares_element c d).1 s) (or-true (ltb (from T c) (to T d) && ltb (from T d) (to T c)))

  pub gives_way_lem : (c d : Recorded) → (gives_way T c d ≡ true) ↔ GivesWay T c d
  unfolding gives_way peers
  gives_way_lem c d = (there, back)
    where
      there : (ltb c.rule d.rule && ((eqb (tree T (target c.change)) (tree T (target d.change)) && eqb (parent_depth T c.change) (parent_depth T d.change)) && overlapping T c.change d.change)) ≡ true → GivesWay T c d
      there q =
          let (a, b) = both_true (ltb c.rule d.rule) _ q in
          let (p, o) = both_true (eqb (tree T (target c.change)) (tree T (target d.change)) && eqb (parent_depth T c.change) (parent_depth T d.change)) _ b in
          let (t, e) = both_true (eqb (tree T (target c.change)) (tree T (target d.change))) _ p in
          record { higher = ltb-true c.rule d.rule a; tree = eqb-true (tree T (target c.change)) (tree T (target d.change)) t; depth = eqb-true (parent_depth T c.change) (parent_depth T d.change) e; overlap = (overlapping_is c.change d.change).0 o }

      back : GivesWay T c d → (ltb c.rule d.rule && ((eqb (tree T (target c.change)) (tree T (target d.change)) && eqb (parent_depth T c.change) (parent_depth T d.change)) && overlapping T c.change d.change)) ≡ true
      back w = rw (lt-ltb c.rule d.rule w.higher, eq-eqb (tree T (target c.change)) (tree T (target d.change)) w.tree, eq-eqb (parent_depth T c.change) (parent_depth T d.change) w.depth, (overlapping_is c.change d.change).1 w.overlap) refl

  not_so : (b : Bool) → (b ≡ true → ⊥) → b ≡ false
  not_so true f = absurd (f refl)
  not_so false f = refl

  -- the first of those kept to which a change gives way is the highest, among equals the first sorted
  under : (rs : List Recorded) (r : Recorded) (d : Numbered) → stronger T (ks rs) r ≡ some d → Under T rs r d.0
  unfolding stronger
  under rs r d g =
      let p : Numbered → Bool = λ d. gives_way T r d.1 in
      record {
        one = d.1;
        kept = All-mem (λ d. Kept T rs d.0 d.1) (ks rs) d (kept_is rs) (first_mem p (ks rs) d g);
        way = (gives_way_lem r d.1).0 (first_passes p (ks rs) d g);
        highest = λ j s k w. ranks j s (All-mem (λ y. p y ≡ true → (y ≡ d) ⊎ Before d y) (ks rs) (j, s) (first_before p Before (ks rs) d (kept_before rs) g) (is_kept rs j s k) ((gives_way_lem r s).1 w));
      }
    where
      ranks : (j : ℕ) (s : Recorded) → ((j, s) ≡ d) ⊎ Before d (j, s) → (s.rule < d.1.rule) ⊎ ((s.rule ≡ d.1.rule) × (d.0 ≤ j))
      ranks j s (inl q) = inr (ap (λ z. z.1.rule) q, omega (arith, ap (λ z. z.0) q))
      ranks j s (inr (inl b)) = inl b
      ranks j s (inr (inr b)) = inr (b.0, omega (arith, b.1))

  -- ── The theorems ──────────────────────────────────────────────────────────────────────────────────────────

  module _ (rs : List Recorded) (i : ℕ) (r : Recorded) (e : get_elem? rs i ≡ some r) where
    -- A REPLACEMENT OR RUN IS KEPT EXACTLY IF no kept one of a higher number overlaps it: "one is withdrawn exactly if it overlaps a kept one of a higher number in
    -- the same tree and at the same parent depth"
    pub kept_exactly : replaces r.change ≡ true → (get_elem? (withdrawals T rs) i ≡ some none) ↔ ((j : ℕ) (s : Recorded) → Kept T rs j s → ¬ GivesWay T r s)
    unfolding stronger ks
    kept_exactly f = (there, back)
      where
        there : get_elem? (withdrawals T rs) i ≡ some none → (j : ℕ) (s : Recorded) → Kept T rs j s → ¬ GivesWay T r s
        there g j s k w =
            let free = first_none (λ d. gives_way T r d.1) (ks rs) ((stays_free rs i r e f).0 g) in
            bool_absurd ((gives_way_lem r s).1 w) (All-mem (λ d. gives_way T r d.1 ≡ false) (ks rs) (j, s) free (is_kept rs j s k))

        back : ((j : ℕ) (s : Recorded) → Kept T rs j s → ¬ GivesWay T r s) → get_elem? (withdrawals T rs) i ≡ some none
        back none-way = (stays_free rs i r e f).1 (none_first (λ d. gives_way T r d.1) (ks rs) (All-map (λ d k. not_so (gives_way T r d.1) (λ q. none-way d.0 d.1 k ((gives_way_lem r d.1).0 q))) (ks rs) (kept_is rs)))

    -- WITHDRAWN UNDER k: it is a replacement or run, and k is "the kept one with the highest number that it so overlaps, among equals the first sorted"
    pub withdrawn_under : (k : ℕ) → get_elem? (withdrawals T rs) i ≡ some (some k) → (replaces r.change ≡ true) × Under T rs r k
    unfolding withdrawn_by
    withdrawn_under k g = go (replaces r.change) refl (some_inj (sym (at_place rs i r e) ∙ g))
      where
        go : (b : Bool) → replaces r.change ≡ b → cond b (map (λ d. d.0) (stronger T (ks rs) r)) none ≡ some k → (replaces r.change ≡ true) × Under T rs r k
        go true f q = let (d, a, b) = map_some (λ d. d.0) (stronger T (ks rs) r) q in (f, rw (← b) (under rs r d a))
        go false f q = none_some q

    -- "Taking replacements and runs": an insertion is never withdrawn
    pub insertions_stay : replaces r.change ≡ false → get_elem? (withdrawals T rs) i ≡ some none
    unfolding withdrawn_by
    insertions_stay f = at_place rs i r e ∙ ap {B = Option (Option ℕ)} some (rw f)
