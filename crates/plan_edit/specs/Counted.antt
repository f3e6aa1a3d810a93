-- The discarded changes, counted on rows.
-- Assumes nothing.
use Rattle.std.specs.Prelude.{Bool, true, false, cond, List, [], ◌∷◌, map, ◌≡◌, refl, ℕ, zero, suc, ◌+◌, ◌*◌, ◌≤◌, ◌<◌, length, get_or, drop, eqb, ltb}
use Rattle.std.proofs.Common.{sym, ap, ◌∙◌, inl, inr, arith, ne_eqb, lt-ltb, le-ltb}
use Rattle.std.proofs.lemmas.List.{length-map}
use Rattle.std.specs.List.{filter, range_with_len}
use Rattle.orders.specs.Lists.{pick}
use Rattle.orders.specs.ListLaws.{lt_or_le}
use Rattle.definition.specs.Basics.{keep}
use Rattle.definition.specs.Planning.{own, dependent, discarded, is_discarded, Planned}
use Rattle.record_changes.specs.ChangeRow.{ChangeRow, row_of, rows_of}
use Rattle.record_changes.specs.ChangeRowLaws.{row_at, rows_from, length_rows_of}
use Rattle.plan_sort.specs.Lists.{keep_cons, map_keep}
use Rattle.plan_sort.specs.Rows.{row_fate}
use Rattle.record_rewritten.specs.Stated.{plan_of}

-- a row whose change is discarded
unfoldable pub discards : ChangeRow → Bool
discards r = is_discarded (row_fate r)

-- how many of some rows are
unfoldable pub discarded_of : List ChangeRow → ℕ
discarded_of rs = length (keep discards rs)

-- as the definition counts them
pub discarded_told : (listed : List ℕ) (rs : List ChangeRow) → length (keep (λ (q : Planned). is_discarded q.fate) (map (plan_of listed) rs)) ≡ discarded_of rs
unfolding discarded_of discards plan_of
discarded_told listed rs =
    ap length (sym (map_keep (plan_of listed) discards (λ (q : Planned). is_discarded q.fate) (λ r. refl) rs)) ∙ length-map (keep discards rs) (plan_of listed)

-- ── One row ─────────────────────────────────────────────────────────────────────────────────────────────────

pub row_discards : (r : ChangeRow) → 1 < r.fate → discards r ≡ true
unfolding discards row_fate is_discarded
row_discards r h = rw (ne_eqb r.fate 0 (λ e. omega arith), ne_eqb r.fate 1 (λ e. omega arith))

pub row_stays : (r : ChangeRow) → r.fate ≤ 1 → discards r ≡ false
unfolding discards row_fate is_discarded
row_stays r h = go r.fate h
  where
    go : (k : ℕ) → k ≤ 1 → is_discarded (cond (eqb k 0) own (cond (eqb k 1) (dependent r.owner) (discarded r.owner))) ≡ false
    go zero h = refl
    go (suc zero) h = refl
    go (suc (suc k)) h = absurd (omega arith)

pub discarded_cons : (r : ChangeRow) (rs : List ChangeRow) → discarded_of (r ∷ rs) ≡ cond (discards r) (suc (discarded_of rs)) (discarded_of rs)
unfolding discarded_of
discarded_cons r rs = rw (keep_cons discards r rs) (go (discards r))
  where
    go : (b : Bool) → length (cond b (r ∷ keep discards rs) (keep discards rs)) ≡ cond b (suc (length (keep discards rs))) (length (keep discards rs))
    go true = refl
    go false = refl

-- ── Row by row ──────────────────────────────────────────────────────────────────────────────────────────────

pub none_left : discarded_of [] ≡ 0
unfolding discarded_of keep pick
none_left = refl

-- no more than there are
few : (rs : List ChangeRow) → discarded_of rs ≤ length rs
few [] = omega (arith, none_left)
few (r ∷ rs) = go (discards r) (discarded_cons r rs) (few rs)
  where
    go : (b : Bool) → discarded_of (r ∷ rs) ≡ cond b (suc (discarded_of rs)) (discarded_of rs) → discarded_of rs ≤ length rs → discarded_of (r ∷ rs) ≤ suc (length rs)
    go true e h = omega arith
    go false e h = omega arith

pub discarded_few : (c : ℕ) (w : List ℕ) → discarded_of (rows_of c w) ≤ c
discarded_few c w = omega (arith, few (rows_of c w), length_rows_of c w)

-- the test of a row at its place
unfoldable pub discards_at : List ℕ → ℕ → Bool
discards_at w k = ltb 1 (get_or (drop (14 * k) w) 11 0)

at_row : (w : List ℕ) (k : ℕ) → discards_at w k ≡ discards (row_at w k)
unfolding discards_at row_at row_of
at_row w k = elim (lt_or_le 1 (row_at w k).fate) [ inl h ↦ rw (lt-ltb 1 (row_at w k).fate h, row_discards (row_at w k) h) | inr h ↦ rw (le-ltb 1 (row_at w k).fate h, row_stays (row_at w k) h) ]

rows_none : (w : List ℕ) → 0 ≡ discarded_of (rows_of 0 w)
unfolding rows_of
rows_none w = sym none_left

-- the places from i on of rows that are
pub discarded_counted : (w : List ℕ) (n i : ℕ) → length (filter (discards_at w) (range_with_len i n)) ≡ discarded_of (rows_of n (drop (14 * i) w))
discarded_counted w zero i = rows_none (drop (14 * i) w)
discarded_counted w (suc n) i =
    let f : 14 * suc i ≡ 14 * (i + 1) = omega arith in
    rw (rows_from w i n, f, discarded_cons (row_at w i) (rows_of n (drop (14 * (i + 1)) w)), ← discarded_counted w n (i + 1), ← at_row w i) (go (discards_at w i) (filter (discards_at w) (range_with_len (i + 1) n)))
  where
    go : (b : Bool) (l : List ℕ) → length (cond b (i ∷ l) l) ≡ cond b (suc (length l)) (length l)
    go true l = refl
    go false l = refl
