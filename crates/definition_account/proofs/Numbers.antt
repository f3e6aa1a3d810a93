-- By element numbers: what holds of paths holds of the array of changed elements, and of where old elements went in the new tree.
-- Assumes nothing.
use Rattle.std.specs.Prelude.{◌≡◌, Bool, ◌⊎◌, ℕ, suc, ◌+◌, ◌≤◌, ◌<◌, take}
use Rattle.std.proofs.Math.Path.{refl, sym, ap}
use Rattle.std.proofs.Common.{◌∙◌, subst, inl, inr}
use Rattle.std.proofs.Math.Bool.{true, false, cond}
use mathlib.Core.List.Memᴰ
use mathlib.Core.List.{List, [], ◌∷◌, ◌++◌, map, head-eq_of_cons-eq, tail-eq_of_cons-eq, Memᴰ}
use Rattle.std.proofs.Math.Option.{Option, none, some, bind}
use native.Mathlib.Omega.{arith}
use Rattle.std.proofs.Math.Dec.{eqb}
use Rattle.std.proofs.Math.ListN.{length, get_elem?}
use borrow.Author.Tests.{eqb-true, eq-eqb}
use Rattle.orders.specs.Lists.{All, Pairs, pick, total}
use Rattle.orders.specs.ListLaws.{bool_absurd, some_inj, none_some, bind_some, get_lt, lt_or_le, mem_pick, All-map, All-map₂, All-mem, All-pick, All-perm, Pairs-with, Pairs-pick, Pairs-perm, total_none, total_perm}
use Rattle.orders.specs.Tree.{Tree, node, forest, list, children, Path, resolve, strip}
use Rattle.orders.proofs.TreeLaws.{strip_append, strip_some, resolve_child}
use Rattle.definition.specs.Basics.{is_some, keep, numbered}
use Rattle.definition.specs.Elements.{Table, table, row, tree, place_below, descend}
use Rattle.definition.specs.Running.{World, present}
use Rattle.definition.specs.Finishing.{new_tree, new_table, number_at}
use Rattle.definition_laws.specs.Kin.{path_leads, path_tells, path_long, depth_path, resolve_down}
use Rattle.definition_laws.specs.Running.{present_kind, present_depth}
use Rattle.definition_laws.specs.Held.{Leads, Holds, number_found}
use Rattle.definition_account.specs.Words.{changed_paths, Under, Aside, Bare, Went, Covered, Full, went_to, ChangedApartInNew, count, changed_over, old_elements, is?, old_at, OneOf, changed, old, EachOneOf}
use Rattle.definition_account.proofs.Changed.{changed_lead, changed_numbers}
use Rattle.definition_account.proofs.Run.{Kept, present_within, present_once}

-- ── At or below ─────────────────────────────────────────────────────────────────────────────────────────────

strip_under : (c p r : Path) → strip c p ≡ some r → Under c p
strip_under c p r e = (r, strip_some c p r e)

none_not_under : (c p : Path) → strip c p ≡ none → ¬ Under c p
none_not_under c p e u = none_some (sym e ∙ (ap (strip c) u.1 ∙ strip_append c u.0))

not_under_none : (c p : Path) → ¬ Under c p → strip c p ≡ none
not_under_none c p h = go (strip c p) refl
  where
    go : (o : Option Path) → strip c p ≡ o → strip c p ≡ none
    go none e = e
    go (some r) e = absurd (h (strip_under c p r e))

-- of two paths at or above a third, one is at or above the other
one_above : (c d p : Path) → Under c p → Under d p → Under c d ⊎ Under d c
one_above [] d p u v = inl (d, refl)
one_above (i ∷ c) [] p u v = inr (i ∷ c, refl)
one_above (i ∷ c) (j ∷ d) p (r, e) (s, f) =
    let z : i ∷ (c ++ r) ≡ j ∷ (d ++ s) = sym e ∙ f in
    let h : i ≡ j = head-eq_of_cons-eq z in
    elim (one_above c d (c ++ r) (r, refl) (s, tail-eq_of_cons-eq z)) [ inl (t, y) ↦ inl (t, rw (h, y)) | inr (t, y) ↦ inr (t, rw (h, y)) ]

pairs_map : {A : Type 0} (R S : A → A → Type 0) → ((x y : A) → R x y → S x y) → (l : List A) → Pairs R l → Pairs S l
pairs_map R S f [] h = tt
pairs_map R S f (x ∷ l) h = (All-map (λ y r. f x y r) l h.0, pairs_map R S f l h.1)

-- ── Exactly one ─────────────────────────────────────────────────────────────────────────────────────────────

module _ {A : Type 0} (p : A → Bool) where
  fails : (x : A) → (p x ≡ true → ⊥) → p x ≡ false
  fails x k = go (p x) refl
    where
      go : (b : Bool) → p x ≡ b → p x ≡ false
      go true e = absurd (k e)
      go false e = e

  none_pass : ((x : A) → p x ≡ true → ⊥) → (l : List A) → All (λ x. p x ≡ false) l
  none_pass k [] = tt
  none_pass k (x ∷ l) = (fails x (k x), none_pass k l)

  -- one that passes, and no two
  count_one : (l : List A) (x : A) → Memᴰ x l → p x ≡ true → Pairs (λ y z. p y ≡ true → p z ≡ true → ⊥) l → count p l ≡ 1
  unfolding count total
  count_one [] x m e h = absurd (Memᴰ.not-nil m)
  count_one (y ∷ l) x m e h = go (p y) refl (Memᴰ.cases_cons m) (λ q. count_one l x q e h.1)
    where
      go : (b : Bool) → p y ≡ b → (x ≡ y) ⊎ Memᴰ x l → (Memᴰ x l → total p (λ x. 1) l ≡ 1) → cond b 1 0 + total p (λ x. 1) l ≡ 1
      go true q m k = omega (arith, total_none p (λ x. 1) l (All-map (λ z f. fails z (f q)) l h.0))
      go false q (inl z) k = bool_absurd (ap p (sym z) ∙ e) q
      go false q (inr z) k = omega (arith, k z)

-- ── Old elements ────────────────────────────────────────────────────────────────────────────────────────────

-- the numbers from n on
numbers_from : {A : Type 0} (n : ℕ) (l : List A) → All (λ x. n ≤ x) (map (λ m. m.0) (numbered n l))
unfolding numbered
numbers_from n [] = tt
numbers_from n (y ∷ l) = (omega arith, All-map (λ x h. omega arith) (map (λ m. m.0) (numbered (suc n) l)) (numbers_from (suc n) l))

numbers_rise : {A : Type 0} (n : ℕ) (l : List A) → Pairs (λ x y. x < y) (map (λ m. m.0) (numbered n l))
unfolding numbered
numbers_rise n [] = tt
numbers_rise n (y ∷ l) = (numbers_from (suc n) l, numbers_rise (suc n) l)

number_in : {A : Type 0} (n : ℕ) (l : List A) (x : ℕ) → n ≤ x → x < n + length l → Memᴰ x (map (λ m. m.0) (numbered n l))
unfolding numbered
number_in n [] x h k = absurd (omega arith)
number_in n (y ∷ l) x h k = elim (lt_or_le n x) [ inl g ↦ Memᴰ.tail (number_in (suc n) l x (omega arith) (omega arith)) | inr g ↦ let z : x ≡ n = omega arith in Memᴰ.head z ]

old_rise : (T : Table) → Pairs (λ x y. x < y) (old_elements T)
unfolding old_elements keep
old_rise T = Pairs-pick (λ x. cond (eqb (tree T x) 0) (some x) none) (λ x y. x < y) (λ x y. x < y) (λ x x' y y' e f h. omega (arith, kept (eqb (tree T x) 0) x x' e, kept (eqb (tree T y) 0) y y' f)) (map (λ m. m.0) (numbered 0 T)) (numbers_rise 0 T)
  where
    kept : (b : Bool) (x x' : ℕ) → cond b (some x) none ≡ some x' → x ≡ x'
    kept true x x' e = some_inj e
    kept false x x' e = none_some e

old_in : (T : Table) (x : ℕ) → x < length T → tree T x ≡ 0 → Memᴰ x (old_elements T)
unfolding old_elements keep
old_in T x h e = mem_pick (λ x. cond (eqb (tree T x) 0) (some x) none) (map (λ m. m.0) (numbered 0 T)) x x (number_in 0 T x (omega arith) (omega arith)) (rw (eq-eqb (tree T x) 0 e))

-- ── The new tree ────────────────────────────────────────────────────────────────────────────────────────────

-- an element of a tree that stands alone
alone_at : (c : Tree ℕ) (n : ℕ) → n < length (table 0 0 (c ∷ [])) → (q : Path) × ((row (table 0 0 (c ∷ [])) n).path ≡ 0 ∷ q) × (v : Tree ℕ) × (resolve q c ≡ some v)
unfolding forest list
alone_at c n l =
    let (x, a, b) = path_leads (c ∷ []) n 2147483648 l in
    by (row (table 0 0 (c ∷ [])) n).path refl (path_long (c ∷ []) n l) x a
  where
    by : (p : Path) → (row (table 0 0 (c ∷ [])) n).path ≡ p → 0 < length p → (x : Tree ℕ) → resolve p (node 2147483648 (forest (c ∷ []))) ≡ some x
        → (q : Path) × ((row (table 0 0 (c ∷ [])) n).path ≡ 0 ∷ q) × (v : Tree ℕ) × (resolve q c ≡ some v)
    by [] z k x a = absurd (omega arith)
    by (t ∷ q) z k x a =
        let (d, e, f) = resolve_child 2147483648 (forest (c ∷ [])) t q x a in
        let t0 : t ≡ 0 = omega (arith, get_lt (c ∷ []) t e) in
        let dc : c ≡ d = some_inj (ap (get_elem? (c ∷ [])) (sym t0) ∙ e) in
        (q, z ∙ ap {B = Path} (λ (j : ℕ). j ∷ q) t0, x, ap (resolve q) dc ∙ f)

module _ (w : World) where
  abbrev F : Table
  F = new_table w

  -- the path of an element of the new tree
  element_at : (n : ℕ) → n < length F → (q : Path) × ((row F n).path ≡ 0 ∷ q) × (v : Tree ℕ) × (resolve (0 ∷ q) w.trees ≡ some v)
  unfolding new_table new_tree table bind
  element_at n l = go (list (children w.trees)) refl l
    where
      go : (cs : List (Tree ℕ)) → list (children w.trees) ≡ cs → n < length (table 0 0 (take 1 cs)) → (q : Path) × ((row (table 0 0 (take 1 cs)) n).path ≡ 0 ∷ q) × (v : Tree ℕ) × (resolve (0 ∷ q) w.trees ≡ some v)
      go [] e l = absurd (omega arith)
      go (c ∷ cs) e l =
          let (q, z, u, r) = alone_at c n l in
          (q, z, u, resolve_down 0 q w.trees ∙ (ap (λ (m : List (Tree ℕ)). bind (get_elem? m 0) (λ c. resolve q c)) e ∙ r))

  -- a path's number there is that of the element with that path
  number_path : (p : Path) (n : ℕ) → Leads w.trees p → number_at F p ≡ some n → (n < length F) × ((row F n).path ≡ p)
  unfolding number_at
  number_path [] n l e = none_some e
  number_path (t ∷ p) n l e = go (eqb t 0) refl e
    where
      go : (b : Bool) → eqb t 0 ≡ b → cond b (descend F 0 p) none ≡ some n → (n < length F) × ((row F n).path ≡ t ∷ p)
      go false x e = none_some e
      go true x e =
          let t0 : t ≡ 0 = eqb-true t 0 x in
          let (m, a, i, b) = number_found w p (subst (λ (j : ℕ). Leads w.trees (j ∷ p)) t0 l) in
          let mn : m ≡ n = some_inj (sym a ∙ e) in
          (omega arith, ap (λ (j : ℕ). (row F j).path) (sym mn) ∙ (b ∙ ap {B = Path} (λ (j : ℕ). j ∷ p) (sym t0)))

  -- and the other way round
  path_number : (p : Path) (n : ℕ) → Leads w.trees p → n < length F → (row F n).path ≡ p → number_at F p ≡ some n
  unfolding new_table
  path_number p n l h e =
      let (q, z, v, r) = element_at n h in
      let is : p ≡ 0 ∷ q = sym e ∙ z in
      let (m, a, i, b) = number_found w q (subst (Leads w.trees) is l) in
      ap (number_at F) is ∙ (a ∙ ap {B = Option ℕ} some (path_tells (new_tree w) m n i h (b ∙ sym z)))

  module _ (ts : List (Tree ℕ)) (k : Kept ts w) (h : Holds w) where
    abbrev T : Table
    T = table 0 0 ts

    pub present_leads : (x : ℕ) (p : Path) → present w x ≡ some p → Leads w.trees p
    present_leads x p e =
        let l = present_within ts w k x p e in
        let (y, s, t) = present_kind ts w k.follows x p l e in
        record { long = omega (arith, present_depth ts w k.follows x p l e, depth_path ts x l, path_long ts x l); found = y; there = s }

    -- an element of the batch went to n exactly if its path is that of n
    pub went_path : (x n : ℕ) → went_to w x ≡ some n → (n < length F) × (present w x ≡ some (row F n).path)
    unfolding went_to
    went_path x n e =
        let (p, a, b) = bind_some (present w x) (number_at F) e in
        let (l, z) = number_path p n (present_leads x p a) b in
        (l, a ∙ ap {B = Option Path} some (sym z))

    pub path_went : (x n : ℕ) → n < length F → present w x ≡ some (row F n).path → went_to w x ≡ some n
    unfolding went_to bind
    path_went x n l e = rw e (path_number (row F n).path n (present_leads x (row F n).path e) l refl)

    -- ── Changed elements ──

    -- those of tree 0, in the order of time
    abbrev numbered0 : List ℕ
    numbered0 = pick (number_at F) (changed_paths w)

    numbers_aside : Pairs (λ c d. (place_below F c d ≡ none) × (place_below F d c ≡ none)) numbered0
    unfolding place_below
    numbers_aside =
        Pairs-pick (number_at F) (λ p q. Leads w.trees p × Leads w.trees q × Aside p q) (λ c d. (place_below F c d ≡ none) × (place_below F d c ≡ none)) one (changed_paths w) (Pairs-with (Leads w.trees) Aside (changed_paths w) (changed_lead w h) k.apart.aside)
      where
        one : (p : Path) (c : ℕ) (q : Path) (d : ℕ) → number_at F p ≡ some c → number_at F q ≡ some d → Leads w.trees p × Leads w.trees q × Aside p q → (strip (row F c).path (row F d).path ≡ none) × (strip (row F d).path (row F c).path ≡ none)
        one p c q d e f (l, m, a) =
            let (i, y) = number_path p c l e in
            let (j, z) = number_path q d m f in
            rw (y, z) (not_under_none p q a.0, not_under_none q p a.1)

    numbers_bare : (x n : ℕ) → went_to w x ≡ some n → All (λ c. place_below F c n ≡ none) numbered0
    unfolding place_below
    numbers_bare x n e = All-pick (number_at F) (λ p. Leads w.trees p × Bare w p) (λ c. place_below F c n ≡ none) one (changed_paths w) (All-map₂ (λ p l b. (l, b)) (changed_paths w) (changed_lead w h) k.apart.bare)
      where
        one : (p : Path) (c : ℕ) → number_at F p ≡ some c → Leads w.trees p × Bare w p → strip (row F c).path (row F n).path ≡ none
        one p c f (l, b) = rw (number_path p c l f).1 (not_under_none p (row F n).path (b x (row F n).path (went_path x n e).1))

    -- THE INVARIANT of the result
    pub apart_in_new : ChangedApartInNew w
    apart_in_new = record {
      aside = Pairs-perm (λ c d. (place_below F c d ≡ none) × (place_below F d c ≡ none)) (λ c d e. (e.1, e.0)) (changed_numbers F w) numbers_aside;
      bare = λ x n e. All-perm (λ c. place_below F c n ≡ none) (changed_numbers F w) (numbers_bare x n e);
      once = λ x y n e f. present_once ts w k x y (row F n).path (went_path x n e).1 (went_path y n f).1;
    }

    -- ── Note 13, of one element of the new tree ──

    module _ (n : ℕ) (l : n < length F) where
      -- n lies at or below c
      abbrev below : ℕ → Bool
      below c = is_some (place_below F c n)

      below_under : (c : ℕ) → below c ≡ true → Under (row F c).path (row F n).path
      unfolding is_some place_below
      below_under c e = go (strip (row F c).path (row F n).path) refl e
        where
          go : (o : Option Path) → strip (row F c).path (row F n).path ≡ o → is_some o ≡ true → Under (row F c).path (row F n).path
          go none x e = bool_absurd e refl
          go (some r) x e = strip_under (row F c).path (row F n).path r x

      -- never at or below two
      below_once : Pairs (λ c d. below c ≡ true → below d ≡ true → ⊥) numbered0
      unfolding place_below
      below_once = pairs_map (λ c d. (strip (row F c).path (row F d).path ≡ none) × (strip (row F d).path (row F c).path ≡ none)) (λ c d. below c ≡ true → below d ≡ true → ⊥) (λ c d a x y. no c d a (one_above (row F c).path (row F d).path (row F n).path (below_under c x) (below_under d y))) numbered0 numbers_aside
        where
          no : (c d : ℕ) → (strip (row F c).path (row F d).path ≡ none) × (strip (row F d).path (row F c).path ≡ none) → Under (row F c).path (row F d).path ⊎ Under (row F d).path (row F c).path → ⊥
          no c d a (inl u) = none_not_under (row F c).path (row F d).path a.0 u
          no c d a (inr u) = none_not_under (row F d).path (row F c).path a.1 u

      over_counted : changed_over w n ≡ count below numbered0
      unfolding changed_over count
      over_counted = sym (total_perm below (λ c. 1) (changed_numbers F w))

      -- it lies at or below just one if it is covered, at or below none if an element of the batch went there
      covered_over : Covered w (row F n).path → changed_over w n ≡ 1
      unfolding place_below is_some
      covered_over c =
          let (q, z, v, r) = element_at n l in
          let (m, a, b) = at c.by q (All-mem (Leads w.trees) (changed_paths w) c.by (changed_lead w h) c.one) c.under.0 (sym z ∙ c.under.1) in
          over_counted ∙ count_one below numbered0 m (mem_pick (number_at F) (changed_paths w) c.by m c.one a) (ap is_some (ap (λ (p : Path). strip p (row F n).path) b ∙ (ap (strip c.by) c.under.1 ∙ strip_append c.by c.under.0))) below_once
        where
          at : (p q : Path) → Leads w.trees p → (r : Path) → 0 ∷ q ≡ p ++ r → (m : ℕ) × (number_at F p ≡ some m) × ((row F m).path ≡ p)
          at [] q d r e = absurd (omega (arith, d.long))
          at (t ∷ p) q d r e =
              let t0 : 0 ≡ t = head-eq_of_cons-eq e in
              let (m, a, i, b) = number_found w p (subst (λ (j : ℕ). Leads w.trees (j ∷ p)) (sym t0) d) in
              let is : 0 ∷ p ≡ t ∷ p = ap {B = Path} (λ (j : ℕ). j ∷ p) t0 in
              (m, ap (number_at F) (sym is) ∙ a, b ∙ is)

      went_over : (x : ℕ) → went_to w x ≡ some n → changed_over w n ≡ 0
      unfolding count is_some
      went_over x e = over_counted ∙ total_none below (λ c. 1) numbered0 (All-map (λ c z. ap is_some z) numbered0 (numbers_bare x n e))

      -- just one old element went there if one of the batch did, none if it is covered
      is_went : (x : ℕ) → is? n (went_to w x) ≡ true → went_to w x ≡ some n
      unfolding is?
      is_went x e = go (went_to w x) e
        where
          go : (o : Option ℕ) → elim o as (λ o. Bool) [ none ↦ false | some m ↦ eqb m n ] ≡ true → o ≡ some n
          go none e = bool_absurd e refl
          go (some m) e = ap {B = Option ℕ} some (eqb-true m n e)

      went_old : (x : ℕ) → went_to w x ≡ some n → old_at T w n ≡ 1
      unfolding old_at is?
      went_old x e =
          let (q, z, v, r) = element_at n l in
          let p = (went_path x n e).1 in
          let (s, y) = k.home x (row F n).path p in
          count_one (λ x. is? n (went_to w x)) (old_elements T) x (old_in T x (present_within ts w k x (row F n).path p) (sym (head-eq_of_cons-eq (sym z ∙ y)))) (ap (is? n) e ∙ eq-eqb n n refl)
          (pairs_map (λ x y. x < y) (λ x y. is? n (went_to w x) ≡ true → is? n (went_to w y) ≡ true → ⊥) (λ x y h a b. omega (arith, apart_in_new.once x y n (is_went x a) (is_went y b))) (old_elements T) (old_rise T))

      covered_old : Covered w (row F n).path → old_at T w n ≡ 0
      unfolding old_at count
      covered_old c =
          total_none (λ x. is? n (went_to w x)) (λ x. 1) (old_elements T)
          (none_pass (λ x. is? n (went_to w x)) (λ x e. All-mem (Bare w) (changed_paths w) c.by k.apart.bare c.one x (row F n).path (went_path x n (is_went x e)).1 c.under) (old_elements T))

      one_of : Went w (row F n).path ⊎ Covered w (row F n).path → OneOf (changed_over w n) (old_at T w n)
      one_of (inl o) = let e = path_went o.0 n l o.1 in rw (went_over o.0 e, went_old o.0 e) old
      one_of (inr c) = rw (covered_over c, covered_old c) changed

    -- where each element of tree 0 is accounted for by paths, it is by numbers
    pub full_each : Full w → EachOneOf T w
    full_each f n l =
        let (q, z, v, r) = element_at n l in
        one_of n l (subst (λ (p : Path). Went w p ⊎ Covered w p) (sym z) (f q v r))
