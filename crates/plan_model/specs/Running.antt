-- The rewritten rows in the order in which they run: the definition's performed changes.
-- Assumes nothing.
use Rattle.std.specs.Prelude.{Bool, cond, ◌≡◌}
use Rattle.std.proofs.Math.Bool.{true, false}
use mathlib.Core.List.{List, [], ◌∷◌, ◌++◌, map, map-map}
use Rattle.std.proofs.Math.Option.{Option, none, some}
use Rattle.std.proofs.Math.Path.{refl, ap}
use Rattle.std.proofs.Common.{sym, ◌∙◌, arith}
use Prim.Native.Nat.{ℕ, zero, suc, ◌+◌, ◌<◌}
use Rattle.orders.specs.Lists.{All}
use Rattle.orders.specs.ListLaws.{All-map}
use Rattle.definition.specs.Basics.{keep, insert_by}
use Rattle.definition.specs.Elements.{Table}
use Rattle.definition.specs.Planning.{Planned, key}
use Rattle.definition.specs.Running.{owned, ranked, order}
use Rattle.definition_laws.specs.Basics.{All-append, All-keep, All-flatMap}
use Rattle.record_changes.specs.ChangeRow.{ChangeRow, rows_of}
use Rattle.record_changes.specs.ChangeRowLaws.{row_at}
use Rattle.plan_sort.specs.Rows.{row_key, row_fate, key_told}
use Rattle.plan_sort.specs.Sorting.{sort_from, comes_at, ranked_places}
use Rattle.plan_postorder.specs.Order.{ordered, owner_told, runs, running_places, in_order, order_told, rows_told_lem}
use Rattle.record_rewritten.specs.Stated.{plan_of}
use Rattle.record_rewritten.specs.Exact.{Exact, exact_tells}

-- ── Which places run ────────────────────────────────────────────────────────────────────────────────────────

module _ {A : Type 0} (P : A → Type 0) where
  insert_all : (comes : A → A → Bool) (x : A) (l : List A) → P x → All P l → All P (insert_by comes x l)
  unfolding insert_by
  insert_all comes x [] p h = (p, tt)
  insert_all comes x (y ∷ l) p h = go (comes y x) (insert_all comes x l p h.1)
    where
      go : (b : Bool) → All P (insert_by comes x l) → All P (cond b (y ∷ insert_by comes x l) (x ∷ y ∷ l))
      go true f = (h.0, f)
      go false f = (p, h)

  ordered_all : (owns : Option ℕ → A → Bool) (place : A → ℕ) (qs : List A) → All P qs → (n : ℕ) (o : Option ℕ) → All P (ordered owns place qs n o)
  unfolding ordered
  ordered_all owns place qs h zero o = tt
  ordered_all owns place qs h (suc n) o =
      All-flatMap P P (λ q. ordered owns place qs n (some (place q)) ++ (q ∷ []))
      (λ q p. All-append P (ordered owns place qs n (some (place q))) (q ∷ []) (ordered_all owns place qs h n (some (place q))) (p, tt))
      (keep (owns o) qs) (All-keep P (owns o) qs h)

sorted_low : (comes : ℕ → ℕ → Bool) (i n : ℕ) → All (λ k. k < i + n) (sort_from comes i n)
unfolding sort_from
sorted_low comes i zero = tt
sorted_low comes i (suc n) = insert_all (λ k. k < i + suc n) comes i (sort_from comes (suc i) n) (omega arith) (All-map (λ k h. omega arith) (sort_from comes (suc i) n) (sorted_low comes (suc i) n))

-- they are places of rows
pub running_low : (w : List ℕ) (c : ℕ) → All (λ k. k < c) (running_places w c)
unfolding running_places runs ranked_places
running_low w c =
    ordered_all (λ k. k < c) (λ o k. owned o (row_fate (row_at w k))) (λ k. k) (sort_from (comes_at true w) 0 c)
    (All-map (λ k h. omega arith) (sort_from (comes_at true w) 0 c) (sorted_low (comes_at true w) 0 c)) c (owner_told 0)

-- ── What runs ───────────────────────────────────────────────────────────────────────────────────────────────

module _ (T : Table) (listed : List ℕ) where
  -- a row that is exact
  abbrev ExactRow : Type 0
  ExactRow = (r : ChangeRow) × Exact T listed r

  abbrev row_in : ExactRow → ChangeRow
  row_in x = x.0

  abbrev plan_in : ExactRow → Planned
  plan_in x = plan_of listed x.0

  exact_rows : (rs : List ChangeRow) → All (Exact T listed) rs → List ExactRow
  exact_rows [] h = []
  exact_rows (r ∷ rs) h = (r, h.0) ∷ exact_rows rs h.1

  rows_in : (rs : List ChangeRow) (h : All (Exact T listed) rs) → map row_in (exact_rows rs h) ≡ rs
  unfolding exact_rows
  rows_in [] h = refl
  rows_in (r ∷ rs) h = ap {B = List ChangeRow} (λ l. r ∷ l) (rows_in rs h.1)

  keys_in : (x : ExactRow) → row_key (row_in x) ≡ key T (plan_in x).change
  unfolding plan_of
  keys_in x = key_told (exact_tells x.1)

  fates_in : (x : ExactRow) → row_fate (row_in x) ≡ (plan_in x).fate
  unfolding plan_of
  fates_in x = refl

  -- the rows at these places state what the definition performs
  pub running_told : (w : List ℕ) (c : ℕ) → All (Exact T listed) (rows_of c w)
      → map (λ k. plan_of listed (row_at w k)) (running_places w c) ≡ order (ranked T (map (plan_of listed) (rows_of c w))) c none
  running_told w c h =
      let xs : List ExactRow = exact_rows (rows_of c w) h in
      let e : map row_in xs ≡ rows_of c w = rows_in (rows_of c w) h in
      let f : map plan_in xs ≡ map (plan_of listed) (rows_of c w) = sym (map-map (plan_of listed) row_in xs) ∙ ap (map (plan_of listed)) e in
      let g = rows_told_lem T row_in plan_in keys_in fates_in w xs c (sym e) in
      sym (map-map (plan_of listed) (row_at w) (running_places w c))
      ∙ (ap (map (plan_of listed)) g
      ∙ (map-map (plan_of listed) (λ (q : ℕ × ExactRow). row_in q.1) (in_order T row_in plan_in keys_in fates_in xs c)
      ∙ (sym (order_told T row_in plan_in keys_in fates_in xs c) ∙ ap (λ (ps : List Planned). order (ranked T ps) c none) f)))
