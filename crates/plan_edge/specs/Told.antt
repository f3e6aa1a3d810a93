-- What becomes of each change, by words: it is what the definition says.
-- Assumes nothing.
use Rattle.std.specs.Prelude.{◌≡◌, Bool, not, ◌&&◌, ◌||◌, drop, ltb, eqb}
use Rattle.std.proofs.Math.Path.{refl, sym, ap}
use Rattle.std.proofs.Common.{◌∙◌, subst, arith}
use Rattle.std.proofs.Math.Bool.{true, false, cond}
use mathlib.Core.List.{List, [], ◌∷◌, ◌++◌, map, zip_with, head-eq_of_cons-eq, tail-eq_of_cons-eq}
use Rattle.std.proofs.Math.Option.{Option, none, some}
use Prim.Native.Nat.{ℕ, zero, suc, ◌+◌, ◌-◌, ◌*◌, ◌≤◌, ◌<◌}
use Rattle.std.proofs.Math.Nat.{zero-add}
use Rattle.std.proofs.Math.ListN.{length, get_or, length-map}
use Rattle.std.proofs.Math.Dec.{eqb-suc-zero}
use Rattle.orders.specs.Lists.{pick, All}
use Rattle.orders.specs.ListLaws.{All-map}
use Rattle.definition.specs.Basics.{keep, numbered}
use Rattle.definition.specs.Elements.{Table}
use Rattle.definition.specs.Recording.{Change}
use Rattle.definition.specs.Planning.{Fate, own, dependent, discarded, node_by_node, inner}
use Rattle.definition.specs.Planning as planning
use Rattle.definition.specs.EdgeRule as edge
use Rattle.definition_laws.specs.Basics.{up_from, up_at, up_long, keep_yes, keep_no, get_d_map}
use Rattle.definition_laws.specs.Right.{Sits}
use Rattle.read_element_table.specs.View.{view}
use Rattle.read_element_table.specs.Wellformed.{Wellformed}
use Rattle.record_changes.specs.ChangeRow.{ChangeRow, rows_of}
use Rattle.record_changes.specs.ChangeRowLaws.{row_at, rows_words, rows_from, rows_read, length_rows_of}
use Rattle.plan_sort.specs.Rows.{with_fate}
use Rattle.plan_edge.specs.Rule.{region_depth, innermost, region_from, regions_of, is_discarded, fate_within, fate_at, fated_at, fated_rows, edge_rows}
use Rattle.plan_edge.specs.Taking.{Placed, takes_placed, depth_placed, owns_placed}

module _ (t : ℕ) (w src v : List ℕ) (W : Wellformed t w src) (n : ℕ) where
  abbrev T : Table
  T = view t w src

  -- the change q stands at its place among n rows
  pub record Stands (q : ℕ × Change) : Type 0 where
    pub within : q.0 < n
    pub placed : Placed T (row_at v q.0) q.1
    pub sits : Sits T q.1

  deep : (q : ℕ × Change) → Stands q → region_depth w (row_at v q.0) ≡ edge.region_depth T q.1
  deep q Q = depth_placed t w src W q.1 (row_at v q.0) Q.placed Q.sits

  -- ── The region of a change ──

  -- the place p (index + 1; 0 = none) is that of o
  abbrev Match : Option (ℕ × Change) → ℕ → Type 0
  Match none p = p ≡ 0
  Match (some r) p = (p ≡ suc r.0) × Stands r

  module _ (c : ℕ × Change) (C : Stands c) where
    step : (r : ℕ × Change) (o : Option (ℕ × Change)) (p : ℕ) → Stands r → Match o p
        → Match (elim o as (λ o. Option (ℕ × Change)) [ none ↦ some r | some s ↦ cond (ltb (edge.region_depth T s.1) (edge.region_depth T r.1)) (some r) (some s) ])
        (cond (eqb p 0 || ltb (region_depth w (row_at v (p - 1))) (region_depth w (row_at v r.0))) (suc r.0) p)
    step r none p R m = rw m (refl, R)
    step r (some s) p R m =
        let e : p - 1 ≡ s.0 = omega (arith, m.0) in
        rw (e, m.0, eqb-suc-zero s.0, deep r R, deep s m.1) (go (ltb (edge.region_depth T s.1) (edge.region_depth T r.1)))
      where
        go : (b : Bool) → Match (cond b (some r) (some s)) (cond b (suc r.0) (suc s.0))
        go true = (refl, R)
        go false = (refl, m.1)

    region_from_lem : (j : ℕ) (l : List Change) → All Stands (numbered j l) → Match (edge.innermost T (keep (λ r. edge.takes T r c) (numbered j l))) (region_from w v c.0 j (length l))
    unfolding numbered region_from edge.innermost innermost keep pick
    region_from_lem j [] h = refl
    region_from_lem j (d ∷ l) h =
        rw (takes_placed t w src W d (row_at v j) h.0.placed h.0.sits j c.0 c.1 (row_at v c.0) C.placed C.sits)
        (go (edge.takes T (j, d) c) refl (region_from_lem (suc j) l h.1))
      where
        rest : List (ℕ × Change)
        rest = numbered (suc j) l

        go : (b : Bool) → edge.takes T (j, d) c ≡ b → Match (edge.innermost T (keep (λ r. edge.takes T r c) rest)) (region_from w v c.0 (suc j) (length l))
            → Match (edge.innermost T (keep (λ r. edge.takes T r c) ((j, d) ∷ rest)))
            (cond b (cond (eqb (region_from w v c.0 (suc j) (length l)) 0 || ltb (region_depth w (row_at v (region_from w v c.0 (suc j) (length l) - 1))) (region_depth w (row_at v j))) (suc j) (region_from w v c.0 (suc j) (length l))) (region_from w v c.0 (suc j) (length l)))
        go true e m = rw (keep_yes (λ r. edge.takes T r c) (j, d) rest e) (step (j, d) (edge.innermost T (keep (λ r. edge.takes T r c) rest)) (region_from w v c.0 (suc j) (length l)) h.0 m)
        go false e m = rw (keep_no (λ r. edge.takes T r c) (j, d) rest e) m

  -- ── What becomes of it ──

  module _ (cs : List Change) (long : length cs ≡ n) (h : All Stands (numbered 0 cs)) where
    abbrev R : List ℕ
    R = regions_of w v n

    abbrev all : List (ℕ × Change)
    all = numbered 0 cs

    region_told : (c : ℕ × Change) → Stands c → Match (edge.region_of T all c) (get_or R c.0 0)
    unfolding edge.region_of regions_of
    region_told c C =
        let z : get_or R c.0 0 ≡ region_from w v c.0 0 n = get_d_map (λ k. region_from w v k 0 n) (up_from 0 n) c.0 0 0 (rw (up_long 0 n) C.within) ∙ ap (λ (k : ℕ). region_from w v k 0 n) (up_at 0 n c.0 C.within ∙ zero-add c.0) in
        rw z (subst (λ (m : ℕ). Match (edge.region_of T all c) (region_from w v c.0 0 m)) long (region_from_lem c C 0 cs h))

    owns : (q : ℕ × Change) → Stands q → eqb (row_at v q.0).region 2 ≡ node_by_node T q.1
    owns q Q = owns_placed t w src W q.1 (row_at v q.0) Q.placed Q.sits

    -- a change is discarded here just where it is there
    discarded_told : (m : ℕ) (c : ℕ × Change) → Stands c → is_discarded v R m c.0 ≡ planning.is_discarded (edge.fate_within T all m c)
    unfolding is_discarded planning.is_discarded edge.fate_within edge.fate_in inner
    discarded_told zero c C = refl
    discarded_told (suc m) c C = go (edge.region_of T all c) (get_or R c.0 0) (region_told c C) (λ r Q. discarded_told m r Q)
      where
        region : (a b : Bool) (k : ℕ) → cond b a true ≡ planning.is_discarded (cond (not a && b) (dependent k) (discarded k))
        region true true k = refl
        region true false k = refl
        region false true k = refl
        region false false k = refl

        go : (o : Option (ℕ × Change)) (p : ℕ) → Match o p → ((r : ℕ × Change) → Stands r → is_discarded v R m r.0 ≡ planning.is_discarded (edge.fate_within T all m r))
            → cond (eqb p 0) false (cond (eqb (row_at v (p - 1)).region 2) (is_discarded v R m (p - 1)) true) ≡ planning.is_discarded (edge.fate_in T (edge.fate_within T all m) o)
        go none p e ih = rw e
        go (some r) p e ih =
            let z : p - 1 ≡ r.0 = omega (arith, e.0) in
            rw (z, e.0, eqb-suc-zero r.0, owns r e.1, ih r e.1) (region (planning.is_discarded (edge.fate_within T all m r)) (node_by_node T r.1) r.0)

    fate_told : (c : ℕ × Change) → Stands c → fate_at w v R c.0 ≡ edge.fate_among T all c
    unfolding fate_at fate_within is_discarded edge.fate_among edge.fate_within edge.fate_in inner
    fate_told c C = rw (deep c C) (go (edge.region_of T all c) (get_or R c.0 0) (region_told c C))
      where
        region : (a b : Bool) (k : ℕ) → cond (cond b a true) (discarded k) (dependent k) ≡ cond (not a && b) (dependent k) (discarded k)
        region true true k = refl
        region true false k = refl
        region false true k = refl
        region false false k = refl

        go : (o : Option (ℕ × Change)) (p : ℕ) → Match o p
            → cond (eqb p 0) own (cond (cond (eqb p 0) false (cond (eqb (row_at v (p - 1)).region 2) (is_discarded v R (edge.region_depth T c.1) (p - 1)) true)) (discarded (p - 1)) (dependent (p - 1)))
            ≡ edge.fate_in T (edge.fate_within T all (edge.region_depth T c.1)) o
        go none p e = rw e
        go (some r) p e =
            let z : p - 1 ≡ r.0 = omega (arith, e.0) in
            rw (z, e.0, eqb-suc-zero r.0, owns r e.1, discarded_told (edge.region_depth T c.1) r e.1)
            (region (planning.is_discarded (edge.fate_within T all (edge.region_depth T c.1) r)) (node_by_node T r.1) r.0)

-- ── All changes ─────────────────────────────────────────────────────────────────────────────────────────────

-- things that have a row and a change each
module _ (t : ℕ) (w src : List ℕ) (W : Wellformed t w src) {X : Type 0} (row : X → ChangeRow) (change : X → Change) where
  -- the row tells the change, whose targets stand where line 6 lets them
  pub record RowTells (x : X) : Type 0 where
    pub placed : Placed (view t w src) (row x) (change x)
    pub sits : Sits (view t w src) (change x)

  module _ (n : ℕ) (v : List ℕ) where
    next : (j : ℕ) (y : X) (ys : List X) → rows_of (suc (length ys)) (drop (14 * j) v) ≡ row y ∷ map row ys → (row_at v j ≡ row y) × (rows_of (length ys) (drop (14 * suc j) v) ≡ map row ys)
    next j y ys e = let z = sym (rows_from v j (length ys)) ∙ e in (head-eq_of_cons-eq z, tail-eq_of_cons-eq z)

    stand : (j : ℕ) (ys : List X) → j + length ys ≤ n → rows_of (length ys) (drop (14 * j) v) ≡ map row ys → All RowTells ys → All (Stands t w src v W n) (numbered j (map change ys))
    unfolding numbered
    stand j [] h e a = tt
    stand j (y ∷ ys) h e a =
        let z = next j y ys e in
        (record { within = omega arith; placed = rw z.0 a.0.placed; sits = a.0.sits }, stand (suc j) ys (omega arith) z.1 a.1)

    fates_from_lem : (f : ℕ → Fate) (g : ℕ × Change → Fate) (j : ℕ) (ys : List X) → rows_of (length ys) (drop (14 * j) v) ≡ map row ys → All (λ q. f q.0 ≡ g q) (numbered j (map change ys))
        → map (λ k. with_fate (row_at v k) (f k)) (up_from j (length ys)) ≡ zip_with (λ x f. with_fate (row x) f) ys (map g (numbered j (map change ys)))
    unfolding numbered up_from zip_with
    fates_from_lem f g j [] e a = refl
    fates_from_lem f g j (y ∷ ys) e a =
        let z = next j y ys e in
        rw (z.0, a.0) (ap {B = List ChangeRow} (λ r. with_fate (row y) (g (j, change y)) ∷ r) (fates_from_lem f g (suc j) ys z.1 a.1))

    -- EACH ROW gets the fate that rule 1 gives its change
    pub edge_fates_told : (xs : List X) → rows_of n v ≡ map row xs → All RowTells xs → edge_rows w n v ≡ zip_with (λ x f. with_fate (row x) f) xs (edge.fates1 (view t w src) (map change xs))
    unfolding edge_rows fated_rows edge.fates1
    edge_fates_told xs e a =
        let long : length xs ≡ n = sym (length-map xs row) ∙ (ap length (sym e) ∙ length_rows_of n v) in
        let z : rows_of (length xs) (drop (14 * 0) v) ≡ map row xs = ap (λ (m : ℕ). rows_of m v) long ∙ e in
        let h = stand 0 xs (omega arith) z a in
        let l : length (map change xs) ≡ n = length-map xs change ∙ long in
        ap (λ (m : ℕ). map (fated_at w v (regions_of w v n)) (up_from 0 m)) (sym long)
        ∙ fates_from_lem (fate_at w v (regions_of w v n)) (edge.fate_among (view t w src) (numbered 0 (map change xs))) 0 xs z
        (All-map (λ q Q. fate_told t w src v W n (map change xs) l h q Q) (numbered 0 (map change xs)) h)

-- what is written is read back
pub edge_read : (w : List ℕ) (n : ℕ) (v l : List ℕ) → rows_of n (rows_words (edge_rows w n v) ++ l) ≡ edge_rows w n v
unfolding edge_rows fated_rows
edge_read w n v l = rows_read (edge_rows w n v) l n (length-map (up_from 0 n) (fated_at w v (regions_of w v n)) ∙ up_long 0 n)
