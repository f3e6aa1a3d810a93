-- What is withdrawn, by words: it is what the definition says.
-- Assumes nothing.
use Rattle.std.specs.Prelude.{◌≡◌, ◌⊎◌, Bool, ◌&&◌, ◌||◌, length, drop, leb}
use Rattle.std.proofs.Math.Path.{refl, ap}
use Rattle.std.proofs.Common.{sym, ◌∙◌, inl, inr, arith}
use Rattle.std.proofs.Math.Bool.{true, false, cond, not, not-not, and_assoc}
use mathlib.Core.List.{List, [], ◌∷◌, ◌++◌, map, Memᴰ}
use Rattle.std.proofs.Math.Option
use Rattle.std.proofs.Math.Option.{Option, none, some}
use Prim.Native.Nat.{ℕ, zero, suc, ◌+◌, ◌-◌, ◌*◌, ◌≤◌, ◌<◌}
use Rattle.std.proofs.Math.ListN.{get_or}
use Rattle.std.proofs.Math.Dec.{ltb, eqb, eqb-suc-zero}
use borrow.Author.Tests.{leb-true, ltb-true, lt-ltb, le-ltb, le-leb}
use Rattle.orders.specs.Lists.{pick, All}
use Rattle.orders.specs.ListLaws.{bool_absurd, both_true, lt_or_le, mem_any, All-map₂, map_append}
use Rattle.definition.specs.Basics.{is_some, keep, first, numbered, lower, insert_by, sort_by, falling}
use Rattle.definition.specs.Elements.{Table, row, tree, parent, child}
use Rattle.definition.specs.Recording.{Recorded, Change, insert, replace, delete, replace_with_many, replace_all}
use Rattle.definition.specs.Planning.{rank, target, from, to, parent_depth, peers}
use Rattle.definition.specs.EdgeRule.{in_run, at_or_below, removes}
use Rattle.definition_laws.specs.Basics.{up_from, All-append, All-keep}
use Rattle.definition_laws.specs.Sorting.{map_insert, map_sort, sort_all}
use Rattle.definition_laws.specs.Right.{Sits, parent_same}
use Rattle.definition_laws.specs.Stages.{numbered_all}
use Rattle.definition.specs.Withdrawing as rule
use Rattle.definition.specs.Withdrawing.{Numbered, replaces, numbers_left}
use Rattle.withdraw_laws.specs.Lists.{keep_passes}
use Rattle.withdraw_laws.proofs.Kept.{shares_element}
use Rattle.withdraw_laws.proofs.Numbers.{numbers_from, numbers_are}
use Rattle.read_element_table.specs.View.{field, line_from, row_at as element_at, view}
use Rattle.read_element_table.specs.Wellformed.{Wellformed}
use Rattle.read_element_table.specs.Told.{length_view, row_view, deep}
use Rattle.record_changes.specs.ChangeRow.{ChangeRow, rows_of, end_of, change_row}
use Rattle.record_changes.specs.ChangeRowLaws.{row_at, rows_from}
use Rattle.plan_sort.specs.Lists.{keep_cons, map_numbered, map_keep, map_first, lower_one}
use Rattle.plan_sort.specs.Rows.{Tells, row_tells}
use Rattle.plan_withdraw.specs.Rule.{crosses, shares, gives_way, stronger, keeping, withdrawn_at, comes, taken_from, kept, withdrawals, told, number_at}

-- a row tells of what is recorded all that withdrawal goes by
pub record Ruled (T : Table) (r : ChangeRow) (c : Recorded) : Type 0 where
  pub tells : Tells T r c.change
  pub target_told : r.target ≡ target c.change
  pub end_told : r.end ≡ end_of c.change
  pub rule_told : r.rule ≡ c.rule

pub row_ruled : (T : Table) (at : ℕ) (c : Recorded) → Ruled T (change_row T at c.rule c.change) c
unfolding change_row
row_ruled T at c = record { tells = row_tells T at c.rule c.change; target_told = refl; end_told = refl; rule_told = refl }

-- ── Two changes ─────────────────────────────────────────────────────────────────────────────────────────────

module _ (n : ℕ) (w s : List ℕ) (W : Wellformed n w s) where
  abbrev T : Table
  T = view n w s

  within : (x : ℕ) → x < length T → x < n
  within x h = omega (arith, length_view n w s)

  -- an element stands in its own line
  line_head : (x d : ℕ) → 0 < d → Memᴰ x (line_from w s d x)
  unfolding line_from
  line_head x zero b = absurd (omega arith)
  line_head x (suc d) b = Memᴰ.head refl

  own_line : (x : ℕ) → x < n → Memᴰ x (row T x).line
  unfolding element_at field
  own_line x h = rw (row_view n w s x h) (line_head x (get_or w (8 * x + 3) 0) (deep n w W.lines x h))

  -- siblings from x to y: x stands before the element after the subtree of y
  run_some : (x y : ℕ) → x < n → y < n → parent T x ≡ parent T y → child T x ≤ child T y → x < get_or w (8 * y + 6) 0
  unfolding at_or_below in_run
  run_some x y h k p c =
      let self : at_or_below T x y x ≡ true = mem_any (in_run T x y) (row T x).line x (own_line x h) (rw (parent_same (parent T x), le-leb (child T x) (child T x) (omega arith), le-leb (child T x) (child T y) c)) in
      ltb-true x (get_or w (8 * y + 6) 0) (both_true (leb x x) (ltb x (get_or w (8 * y + 6) 0)) (sym (W.interval x y x h k h p c) ∙ self)).1

  -- what a replacement or run removes: an interval of elements, not empty
  record Spread (r : ChangeRow) (c : Change) : Type 0 where
    interval : (e : ℕ) → e < n → removes T c e ≡ (leb r.target e && ltb e (get_or w (8 * r.end + 6) 0))
    some : r.target < get_or w (8 * r.end + 6) 0
    ends : get_or w (8 * r.end + 6) 0 ≤ n

  spread : (r : ChangeRow) (c : Change) → r.target ≡ target c → r.end ≡ end_of c → Sits T c → replaces c ≡ true → Spread r c
  unfolding removes target end_of replaces rank
  spread r c e f t q = go c e f t q
    where
      one : (x y : ℕ) → r.target ≡ x → r.end ≡ y → x < n → y < n → parent T x ≡ parent T y → child T x ≤ child T y → (c : Change) → ((e : ℕ) → removes T c e ≡ at_or_below T x y e) → Spread r c
      one x y e f h k p i c same = record {
        interval = λ d b. rw (e, f) (same d ∙ W.interval x y d h k b p i);
        some = rw (e, f) (run_some x y h k p i);
        ends = rw f (W.ends y k);
      }

      go : (c : Change) → r.target ≡ target c → r.end ≡ end_of c → Sits T c → replaces c ≡ true → Spread r c
      go (insert p x l) e f t q = bool_absurd q refl
      go (replace x y) e f t q = one x x e f (within x t) (within x t) refl (omega arith) (replace x y) (λ d. refl)
      go (delete x) e f t q = one x x e f (within x t.0) (within x t.0) refl (omega arith) (delete x) (λ d. refl)
      go (replace_with_many x l) e f t q = one x x e f (within x t.0) (within x t.0) refl (omega arith) (replace_with_many x l) (λ d. refl)
      go (replace_all x y l) e f t q = one x y e f (within x t.0) (within y t.1) t.3 t.4 (replace_all x y l) (λ d. refl)

  -- two intervals meet exactly if some element is in both
  shares_told : (r u : ChangeRow) (c d : Change) → Spread r c → Spread u d → shares w r u ≡ rule.shares T c d
  unfolding shares
  shares_told r u c d P Q = go (rule.shares T c d) refl (lt_or_le r.target (get_or w (8 * u.end + 6) 0)) (lt_or_le u.target (get_or w (8 * r.end + 6) 0))
    where
      a : ℕ
      a = get_or w (8 * r.end + 6) 0

      b : ℕ
      b = get_or w (8 * u.end + 6) 0

      in_both : (e : ℕ) → e < n → r.target ≤ e → e < a → u.target ≤ e → e < b → rule.shares T c d ≡ true
      in_both e h i j k l =
          (shares_element T c d).1 (e, omega (arith, length_view n w s), P.interval e h ∙ rw (le-leb r.target e i, lt-ltb e a j), Q.interval e h ∙ rw (le-leb u.target e k, lt-ltb e b l))

      meet : r.target < b → u.target < a → rule.shares T c d ≡ true
      meet i j = lower (lt_or_le r.target u.target)
        where
          lower : (r.target < u.target) ⊎ (u.target ≤ r.target) → rule.shares T c d ≡ true
          lower (inl k) = in_both u.target (omega (arith, P.ends)) (omega arith) j (omega arith) Q.some
          lower (inr k) = in_both r.target (omega (arith, Q.ends)) (omega arith) P.some k i

      go : (t : Bool) → rule.shares T c d ≡ t → (r.target < b) ⊎ (b ≤ r.target) → (u.target < a) ⊎ (a ≤ u.target) → (ltb r.target b && ltb u.target a) ≡ rule.shares T c d
      go true q f g =
          let (e, h, i, j) = (shares_element T c d).0 q in
          let (k, l) = both_true (leb r.target e) (ltb e a) (sym (P.interval e (within e h)) ∙ i) in
          let (o, p) = both_true (leb u.target e) (ltb e b) (sym (Q.interval e (within e h)) ∙ j) in
          let x : r.target < b = omega (arith, leb-true r.target e k, ltb-true e b p) in
          let y : u.target < a = omega (arith, leb-true u.target e o, ltb-true e a l) in
          rw (q, lt-ltb r.target b x, lt-ltb u.target a y)
      go false q (inr f) g = rw (q, le-ltb r.target b f)
      go false q (inl f) (inr g) = rw (q, lt-ltb r.target b f, le-ltb u.target a g)
      go false q (inl f) (inl g) = bool_absurd (meet f g) q

  -- ONE GIVES WAY TO ANOTHER as the definition says
  gives_told : (r u : ChangeRow) (c d : Recorded) → Ruled T r c → Ruled T u d → Spread r c.change → Spread u d.change → gives_way w r u ≡ rule.gives_way T c d
  unfolding gives_way rule.gives_way crosses rule.overlapping rule.crosses peers
  gives_told r u c d R U P Q =
      rw (shares_told r u c.change d.change P Q, R.rule_told, U.rule_told, R.tells.tree_told, U.tells.tree_told, R.tells.depth_told, U.tells.depth_told, R.tells.from_told, U.tells.from_told, R.tells.to_told, U.tells.to_told)
      (ap (λ (x : Bool). ltb c.rule d.rule && x) (sym (and_assoc (eqb (tree T (target c.change)) (tree T (target d.change))) (eqb (parent_depth T c.change) (parent_depth T d.change)) ((ltb (from T c.change) (to T d.change) && ltb (from T d.change) (to T c.change)) || rule.shares T c.change d.change))))

-- ── Places and rows: on rows with their places ──────────────────────────────────────────────────────────────

-- a row with its place
abbrev Rowed : Type 0
Rowed = ℕ × ChangeRow

-- a place as index + 1; 0 = none
abbrev placed : Option ℕ → ℕ
placed none = 0
placed (some k) = suc k

told_placed : (o : Option ℕ) → told (placed o) ≡ o
unfolding told
told_placed none = refl
told_placed (some k) = let z : suc k - 1 ≡ k = omega arith in rw (eqb-suc-zero k, z)

rows_none : (l : List ℕ) → rows_of 0 l ≡ []
unfolding rows_of
rows_none l = refl

module _ (w : List ℕ) where
  -- the first of these rows to which r gives way
  abbrev first_way : ChangeRow → List Rowed → Option Rowed
  first_way r ps = first (λ p. gives_way w r p.1) ps

  -- those kept
  unfoldable keep_rows : List Rowed → List Rowed → List Rowed
  keep_rows ks [] = ks
  keep_rows ks (p ∷ ps) = keep_rows (cond (is_some (first_way p.1 ks)) ks (ks ++ (p ∷ []))) ps

  none_placed : (o : Option Rowed) → eqb (placed (Option.map (λ p. p.0) o)) 0 ≡ not (is_some o)
  unfolding is_some
  none_placed none = refl
  none_placed (some p) = eqb-suc-zero p.0

module _ (w v : List ℕ) where
  abbrev at : ℕ → Rowed
  at k = (k, row_at v k)

  stronger_at : (k : ℕ) (l : List ℕ) → stronger w v k l ≡ placed (Option.map (λ p. p.0) (first_way w (row_at v k) (map at l)))
  unfolding stronger first
  stronger_at k [] = refl
  stronger_at k (j ∷ l) = go (gives_way w (row_at v k) (row_at v j)) (stronger_at k l)
    where
      go : (b : Bool) → stronger w v k l ≡ placed (Option.map (λ p. p.0) (first_way w (row_at v k) (map at l)))
          → cond b (suc j) (stronger w v k l) ≡ placed (Option.map (λ p. p.0) (cond b (some (at j)) (first_way w (row_at v k) (map at l))))
      go true e = refl
      go false e = e

  keeping_at : (ks l : List ℕ) → map at (keeping w v ks l) ≡ keep_rows w (map at ks) (map at l)
  unfolding keeping keep_rows
  keeping_at ks [] = refl
  keeping_at ks (k ∷ l) = keeping_at (cond (eqb (stronger w v k ks) 0) (ks ++ (k ∷ [])) ks) l ∙ ap (λ ps. keep_rows w ps (map at l)) (rw (stronger_at k ks, none_placed w (first_way w (row_at v k) (map at ks))) (go (is_some (first_way w (row_at v k) (map at ks)))))
    where
      go : (b : Bool) → map at (cond (not b) (ks ++ (k ∷ [])) ks) ≡ cond b (map at ks) (map at ks ++ (at k ∷ []))
      go true = refl
      go false = map_append at ks (k ∷ [])

  -- as they are taken
  abbrev before : Rowed → Rowed → Bool
  before p q = ltb q.1.rule p.1.rule

  abbrev replacing : Rowed → Bool
  replacing p = not (eqb p.1.rank 0)

  comes_at : (x y : ℕ) → comes v x y ≡ before (at x) (at y)
  unfolding comes
  comes_at x y = refl

  taken_at : (j m : ℕ) → map at (taken_from v j m) ≡ sort_by before (keep replacing (numbered j (rows_of m (drop (14 * j) v))))
  unfolding taken_from numbered sort_by keep pick
  taken_at j zero = rw (rows_none (drop (14 * j) v))
  taken_at j (suc m) = rw (rows_from v j m, keep_cons replacing (at j) (numbered (suc j) (rows_of m (drop (14 * suc j) v)))) (go (eqb (row_at v j).rank 0) (taken_at (suc j) m))
    where
      rest : List Rowed
      rest = keep replacing (numbered (suc j) (rows_of m (drop (14 * suc j) v)))

      go : (b : Bool) → map at (taken_from v (suc j) m) ≡ sort_by before rest → map at (cond b (taken_from v (suc j) m) (insert_by (comes v) j (taken_from v (suc j) m))) ≡ sort_by before (cond (not b) (at j ∷ rest) rest)
      go true e = e
      go false e = map_insert at (comes v) before (λ x y. comes_at x y) j (taken_from v (suc j) m) ∙ ap (insert_by before (at j)) e

  -- what is told of each place is told of each row
  rows_each : {A : Type 0} (f : ChangeRow → A) (j m : ℕ) → map (λ k. f (row_at v k)) (up_from j m) ≡ map f (rows_of m (drop (14 * j) v))
  unfolding up_from
  rows_each f j zero = rw (rows_none (drop (14 * j) v))
  rows_each {A} f j (suc m) = rw (rows_from v j m) (ap {B = List A} (λ l. f (row_at v j) ∷ l) (rows_each f (suc j) m))

  -- all of it
  kept_at : (n : ℕ) → map at (kept w v n) ≡ keep_rows w [] (sort_by before (keep replacing (numbered 0 (rows_of n v))))
  unfolding kept
  kept_at n = keeping_at [] (taken_from v 0 n) ∙ ap (keep_rows w []) (taken_at 0 n)

  withdrawn_at_lem : (n : ℕ) → withdrawals w v n ≡ map (λ r. cond (eqb r.rank 0) 0 (placed (Option.map (λ p. p.0) (first_way w r (map at (kept w v n)))))) (rows_of n v)
  unfolding withdrawals withdrawn_at
  withdrawn_at_lem n = map_same (λ k. rw (stronger_at k (kept w v n))) (up_from 0 n) ∙ rows_each (λ r. cond (eqb r.rank 0) 0 (placed (Option.map (λ p. p.0) (first_way w r (map at (kept w v n)))))) 0 n
    where
      map_same : {f g : ℕ → ℕ} → ((k : ℕ) → f k ≡ g k) → (l : List ℕ) → map f l ≡ map g l
      map_same h [] = refl
      map_same {f} {g} h (x ∷ l) = rw (h x) (ap {B = List ℕ} (λ r. g x ∷ r) (map_same {f = f} {g = g} h l))

-- ── All changes ─────────────────────────────────────────────────────────────────────────────────────────────

-- things that have a row and something recorded each
module _ (n : ℕ) (w s : List ℕ) (W : Wellformed n w s) {X : Type 0} (row : X → ChangeRow) (rec : X → Recorded) (ruled : (x : X) → Ruled (view n w s) (row x) (rec x)) where
  abbrev S : Table
  S = view n w s

  abbrev rowed : ℕ × X → Rowed
  rowed q = (q.0, row q.1)

  abbrev numb : ℕ × X → Numbered
  numb q = (q.0, rec q.1)

  -- a replacement or run whose targets stand where line 6 lets them
  abbrev Good : X → Type 0
  Good x = Sits S (rec x).change × (replaces (rec x).change ≡ true)

  spread_of : (x : X) → Good x → Spread n w s W (row x) (rec x).change
  spread_of x g = spread n w s W (row x) (rec x).change (ruled x).target_told (ruled x).end_told g.0 g.1

  way_same : (x y : X) → Good x → Good y → gives_way w (row x) (row y) ≡ rule.gives_way S (rec x) (rec y)
  way_same x y g h = gives_told n w s W (row x) (row y) (rec x) (rec y) (ruled x) (ruled y) (spread_of x g) (spread_of y h)

  -- the first of these to which x gives way
  first_x : X → List (ℕ × X) → Option (ℕ × X)
  first_x x qs = first (λ q. rule.gives_way S (rec x) (rec q.1)) qs

  stronger_x : (x : X) (qs : List (ℕ × X)) → rule.stronger S (map numb qs) (rec x) ≡ Option.map numb (first_x x qs)
  unfolding rule.stronger first_x
  stronger_x x qs = map_first numb (λ q. rule.gives_way S (rec x) (rec q.1)) (λ d. rule.gives_way S (rec x) d.1) (λ q. refl) qs

  way_x : (x : X) (qs : List (ℕ × X)) → Good x → All (λ q. Good q.1) qs → first (λ p. gives_way w (row x) p.1) (map rowed qs) ≡ Option.map rowed (first_x x qs)
  unfolding first first_x
  way_x x [] g h = refl
  way_x x (q ∷ qs) g h = rw (way_same x q.1 g h.0) (go (rule.gives_way S (rec x) (rec q.1)) (way_x x qs g h.1))
    where
      go : (b : Bool) → first (λ p. gives_way w (row x) p.1) (map rowed qs) ≡ Option.map rowed (first_x x qs)
          → cond b (some (rowed q)) (first (λ p. gives_way w (row x) p.1) (map rowed qs)) ≡ Option.map rowed (cond b (some q) (first_x x qs))
      go true e = refl
      go false e = e

  same_place : (o : Option (ℕ × X)) → Option.map (λ (p : Rowed). p.0) (Option.map rowed o) ≡ Option.map (λ (d : Numbered). d.0) (Option.map numb o)
  same_place none = refl
  same_place (some q) = refl

  same_some : (o : Option (ℕ × X)) → (is_some (Option.map rowed o) ≡ is_some o) × (is_some (Option.map numb o) ≡ is_some o)
  unfolding is_some
  same_some none = (refl, refl)
  same_some (some q) = (refl, refl)

  -- those kept of them
  keep_x : List (ℕ × X) → List (ℕ × X) → List (ℕ × X)
  keep_x ks [] = ks
  keep_x ks (q ∷ qs) = keep_x (cond (is_some (first_x q.1 ks)) ks (ks ++ (q ∷ []))) qs

  cond_map : {Y : Type 0} (f : ℕ × X → Y) (b : Bool) (ks : List (ℕ × X)) (q : ℕ × X) → cond b (map f ks) (map f ks ++ (f q ∷ [])) ≡ map f (cond b ks (ks ++ (q ∷ [])))
  cond_map f true ks q = refl
  cond_map f false ks q = sym (map_append f ks (q ∷ []))

  keeping_x : (ks qs : List (ℕ × X)) → rule.keeping S (map numb ks) (map numb qs) ≡ map numb (keep_x ks qs)
  unfolding rule.keeping keep_x
  keeping_x ks [] = refl
  keeping_x ks (q ∷ qs) =
      ap (λ b. rule.keeping S (cond b (map numb ks) (map numb ks ++ (numb q ∷ []))) (map numb qs)) (ap is_some (stronger_x q.1 ks) ∙ (same_some (first_x q.1 ks)).1)
      ∙ (ap (λ l. rule.keeping S l (map numb qs)) (cond_map numb (is_some (first_x q.1 ks)) ks q) ∙ keeping_x (cond (is_some (first_x q.1 ks)) ks (ks ++ (q ∷ []))) qs)

  good_more : (ks : List (ℕ × X)) (q : ℕ × X) (b : Bool) → All (λ q. Good q.1) ks → Good q.1 → All (λ q. Good q.1) (cond b ks (ks ++ (q ∷ [])))
  good_more ks q true h g = h
  good_more ks q false h g = All-append (λ q. Good q.1) ks (q ∷ []) h (g, tt)

  keep_x_lem : (ks qs : List (ℕ × X)) → All (λ q. Good q.1) ks → All (λ q. Good q.1) qs → (keep_rows w (map rowed ks) (map rowed qs) ≡ map rowed (keep_x ks qs)) × All (λ q. Good q.1) (keep_x ks qs)
  unfolding keep_rows keep_x
  keep_x_lem ks [] h k = (refl, h)
  keep_x_lem ks (q ∷ qs) h k =
      let (a, b) = keep_x_lem (cond (is_some (first_x q.1 ks)) ks (ks ++ (q ∷ []))) qs (good_more ks q (is_some (first_x q.1 ks)) h k.0) k.1 in (
        ap (λ b. keep_rows w (cond b (map rowed ks) (map rowed ks ++ (rowed q ∷ []))) (map rowed qs)) (ap is_some (way_x q.1 ks k.0 h) ∙ (same_some (first_x q.1 ks)).0)
            ∙ (ap (λ l. keep_rows w l (map rowed qs)) (cond_map rowed (is_some (first_x q.1 ks)) ks q) ∙ a),
        b,
      )

  before_x : ℕ × X → ℕ × X → Bool
  before_x p q = ltb (rec q.1).rule (rec p.1).rule

  module _ (v : List ℕ) (m : ℕ) (xs : List X) (rows : rows_of m v ≡ map row xs) (sits : All (λ x. Sits S (rec x).change) xs) where
    -- the replacements and runs among them with their places, and as they are taken
    removing : List (ℕ × X)
    removing = keep (λ q. replaces (rec q.1).change) (numbered 0 xs)

    taken_x : List (ℕ × X)
    taken_x = sort_by before_x removing

    good_taken : All (λ q. Good q.1) taken_x
    unfolding taken_x removing
    good_taken =
        sort_all before_x (λ q. Good q.1) removing
        (All-map₂ (λ q a b. (a, b)) removing (All-keep (λ q. Sits S (rec q.1).change) (λ q. replaces (rec q.1).change) (numbered 0 xs) (numbered_all (λ x. Sits S (rec x).change) 0 xs sits))
        (keep_passes (λ q. replaces (rec q.1).change) (numbered 0 xs)))

    rows_taken : sort_by (before w v) (keep (replacing w v) (numbered 0 (rows_of m v))) ≡ map rowed taken_x
    unfolding taken_x removing before_x replaces
    rows_taken =
        rw (rows, ← map_numbered row 0 xs, ← map_keep rowed (λ q. not (eqb (rank (rec q.1).change) 0)) (replacing w v) (λ q. rw (ruled q.1).tells.rank_told) (numbered 0 xs))
        (sym (map_sort rowed before_x (before w v) (λ p q. rw ((ruled q.1).rule_told, (ruled p.1).rule_told)) removing))

    changes_taken : falling (λ c. c.1.rule ∷ []) (keep (λ c. replaces c.1.change) (numbered 0 (map rec xs))) ≡ map numb taken_x
    unfolding falling taken_x removing before_x
    changes_taken =
        rw (← map_numbered rec 0 xs, ← map_keep numb (λ q. replaces (rec q.1).change) (λ c. replaces c.1.change) (λ q. refl) (numbered 0 xs))
        (sym (map_sort numb before_x (λ x y. lower (y.1.rule ∷ []) (x.1.rule ∷ [])) (λ p q. lower_one (rec q.1).rule (rec p.1).rule) removing))

    -- those kept
    kept_x : List (ℕ × X)
    kept_x = keep_x [] taken_x

    rows_kept : map (at w v) (kept w v m) ≡ map rowed kept_x
    unfolding kept_x
    rows_kept = kept_at w v m ∙ (ap (keep_rows w []) rows_taken ∙ (keep_x_lem [] taken_x tt good_taken).0)

    changes_kept : rule.kept S (map rec xs) ≡ map numb kept_x
    unfolding rule.kept kept_x
    changes_kept = ap (rule.keeping S []) changes_taken ∙ keeping_x [] taken_x

    good_kept : All (λ q. Good q.1) kept_x
    unfolding kept_x
    good_kept = (keep_x_lem [] taken_x tt good_taken).1

    rank_told_lem : (x : X) → eqb (row x).rank 0 ≡ not (replaces (rec x).change)
    unfolding replaces
    rank_told_lem x = ap (λ (k : ℕ). eqb k 0) (ruled x).tells.rank_told ∙ sym (not-not (eqb (rank (rec x).change) 0))

    -- of each
    each_told : (x : X) → Sits S (rec x).change → told (cond (eqb (row x).rank 0) 0 (placed (Option.map (λ p. p.0) (first_way w (row x) (map rowed kept_x))))) ≡ rule.withdrawn_by S (map numb kept_x) (rec x)
    unfolding rule.withdrawn_by
    each_told x t = rw (rank_told_lem x) (go (replaces (rec x).change) refl)
      where
        go : (b : Bool) → replaces (rec x).change ≡ b → told (cond (not b) 0 (placed (Option.map (λ p. p.0) (first_way w (row x) (map rowed kept_x))))) ≡ cond b (Option.map (λ d. d.0) (rule.stronger S (map numb kept_x) (rec x))) none
        go true q = rw (way_x x kept_x (t, q) good_kept, stronger_x x kept_x) (told_placed (Option.map (λ (p : Rowed). p.0) (Option.map rowed (first_x x kept_x))) ∙ same_place (first_x x kept_x))
        go false q = told_placed none

    map_told : (ys : List X) → All (λ x. Sits S (rec x).change) ys
        → map told (map (λ r. cond (eqb r.rank 0) 0 (placed (Option.map (λ p. p.0) (first_way w r (map rowed kept_x))))) (map row ys)) ≡ map (rule.withdrawn_by S (map numb kept_x)) (map rec ys)
    map_told [] h = refl
    map_told (y ∷ ys) h = rw (each_told y h.0) (ap {B = List (Option ℕ)} (λ l. rule.withdrawn_by S (map numb kept_x) (rec y) ∷ l) (map_told ys h.1))

    -- WHAT IS WITHDRAWN, AND UNDER WHICH, is what the definition says
    pub withdrawals_told : map told (withdrawals w v m) ≡ rule.withdrawals S (map rec xs)
    unfolding rule.withdrawals
    withdrawals_told = rw (withdrawn_at_lem w v m, rows_kept, rows, changes_kept) (map_told xs sits)

-- ── Numbers ─────────────────────────────────────────────────────────────────────────────────────────────────

number_from : (i : ℕ) (ps : List ℕ) (k : ℕ) → number_at i ps k ≡ get_or (numbers_from i (map told ps)) k 0
unfolding number_at numbers_from told
number_from i [] k = refl
number_from i (p ∷ ps) k = go (eqb p 0) k (number_from (suc i) ps)
  where
    go : (b : Bool) (k : ℕ) → ((k : ℕ) → number_at (suc i) ps k ≡ get_or (numbers_from (suc i) (map told ps)) k 0)
        → cond b (cond (eqb k 0) i (number_at (suc i) ps (k - 1))) (number_at (suc i) ps k) ≡ get_or (numbers_from i (cond b none (some (p - 1)) ∷ map told ps)) k 0
    go true zero f = refl
    go true (suc k) f = let z : suc k - 1 ≡ k = omega arith in rw (eqb-suc-zero k, z) (f k)
    go false k f = f k

-- places are told by their numbers, as the account does
pub number_told : (ps : List ℕ) (k : ℕ) → number_at 0 ps k ≡ get_or (numbers_left (map told ps)) k 0
number_told ps k = rw (numbers_are (map told ps)) (number_from 0 ps k)
