-- The sorted rows, those that stay, and their fates: the definition's planned changes, and what rewriting asks of them.
-- Assumes nothing.
use Rattle.std.specs.Prelude.{true, ◌≡◌, length, get_or, drop}
use mathlib.Core.List.{List, [], ◌∷◌, map, zip_with, map-map}
use Rattle.std.proofs.Math.Path.{refl, sym, ap, subst}
use Rattle.std.proofs.Common.{◌∙◌, arith, drop-drop, ne_eqb}
use Prim.Native.Nat.{ℕ, zero, suc, ◌+◌, ◌*◌, ◌≤◌, ◌<◌}
use Rattle.std.proofs.lemmas.List.{length-map}
use Rattle.orders.specs.Lists.{All}
use Rattle.orders.specs.ListLaws.{bool_absurd, All-map}
use Rattle.definition.specs.Basics.{rising, lower}
use Rattle.definition.specs.Choices.{Choices}
use Rattle.definition.specs.Elements.{Table}
use Rattle.definition.specs.Refusals.{Call}
use Rattle.definition.specs.Recording.{Recorded, first_child, after, Change, insert, replace, delete, replace_with_many, replace_all, call, recorded}
use Rattle.definition.specs.Planning.{Fate, dependent, Planned, target, key, sorted, overlap, node_by_node, changes_of, with_fates}
use Rattle.definition.specs.EdgeRule.{fates1, fates_by, planned}
use Rattle.definition.specs.Withdrawing.{withdrawals_by, staying}
use Rattle.definition_laws.specs.Basics.{map_All, get_d_map}
use Rattle.definition_laws.specs.Right.{Right, right_sits, judged, below_E}
use Rattle.definition_laws.specs.Sorting.{sort_all}
use Rattle.definition_laws.specs.Staying.{staying_all, staying_map}
use Rattle.definition_laws.specs.Stages.{planned_changes, planned_fates, fates_by_0}
use Rattle.read_element_table.specs.View.{view}
use Rattle.read_element_table.specs.Wellformed.{Wellformed}
use Rattle.read_element_table.specs.Told.{length_view}
use Rattle.record_changes.specs.ChangeRow.{ChangeRow, rows_of, operation, end_of, change_row}
use Rattle.record_changes.specs.ChangeRowLaws.{row_at, length_rows_of, row_among}
use Rattle.record_queue.specs.Recorded.{recorded_at, snd, recorded_changes}
use Rattle.record_queue.specs.RecordedRows.{row_for, change_rows}
use Rattle.plan_sort.specs.Rows.{row_fate, with_fate, fate_stated, row_tells, key_told}
use Rattle.plan_sort.specs.Sorting.{sorted_rows_lem, sorted_changes}
use Rattle.plan_overlap.specs.Overlap.{rows_overlap, overlap_told}
use Rattle.plan_changed_region.specs.Fates.{planned_rows, fates_told}
use Rattle.plan_edge.specs.Rule.{edge_rows}
use Rattle.plan_edge.specs.Taking.{row_placed}
use Rattle.plan_edge.specs.Told.{RowTells, edge_fates_told}
use Rattle.plan_withdraw.specs.Rule.{told, withdrawals}
use Rattle.plan_withdraw.specs.Told.{row_ruled, withdrawals_told}
use Rattle.record_rewritten.specs.Stated.{change_by, new_of, change_of, plan_of, Rewritable, fate_dependent}
use Rattle.record_rewritten.specs.Exact.{recorded_states, recorded_exact, exact_stated}
use Rattle.plan_rewrite.specs.Rewritten.{no_change}
use Rattle.plan_rewrite.specs.Kept.{Kept}
use Rattle.plan_model.specs.Recorded.{Known}
use Rattle.plan_model.specs.Owners.{Owned, by_owned}
use Rattle.plan_model.specs.Fated.{RowsFated, fated_rows, gone, left, left_at, left_rows, sorted_at, sorted_rows}

-- ── Sorted ──────────────────────────────────────────────────────────────────────────────────────────────────

module _ (T : Table) (cs : List Call) where
  rows_sorted : (sorted_rows T cs) ≡ map (row_for T) (sorted_at T cs)
  unfolding sorted_rows sorted_at change_rows
  rows_sorted = sorted_rows_lem T (row_for T) snd (λ x. key_told (row_tells T x.0 x.1.rule x.1.change)) (recorded_at cs)

  recorded_sorted : sorted T (recorded cs) ≡ map snd (sorted_at T cs)
  unfolding sorted_at
  recorded_sorted = ap (sorted T) (sym (recorded_changes cs)) ∙ sorted_changes T (row_for T) snd (λ x. key_told (row_tells T x.0 x.1.rule x.1.change)) (recorded_at cs)

  -- a row a change
  pub rows_many : length (sorted_rows T cs) ≡ length (sorted T (recorded cs))
  rows_many = rw (rows_sorted, recorded_sorted) (length-map (sorted_at T cs) (row_for T) ∙ sym (length-map (sorted_at T cs) snd))

  -- its changes
  abbrev change_at : ℕ × Recorded → Change
  change_at p = p.1.change

  module _ (h : Choices) where
    rows_left : left_rows T cs h ≡ map (row_for T) (left_at T cs h)
    unfolding left_rows left_at
    rows_left = ap (staying (gone T cs h)) rows_sorted ∙ staying_map (row_for T) (gone T cs h) (sorted_at T cs)

    recorded_left : left T cs h ≡ map snd (left_at T cs h)
    unfolding left_at
    recorded_left = ap (staying (gone T cs h)) recorded_sorted ∙ staying_map snd (gone T cs h) (sorted_at T cs)

    changes_left : changes_of (left T cs h) ≡ map change_at (left_at T cs h)
    unfolding changes_of
    changes_left = ap (map (λ r. r.change)) recorded_left ∙ map-map (λ r. r.change) snd (left_at T cs h)

    -- refusal 8 is the definition's
    pub overlap_left : rows_overlap (left_rows T cs h) ≡ overlap T (changes_of (left T cs h))
    overlap_left = rw (rows_left, changes_left) (overlap_told T (row_for T) change_at (λ x. row_tells T x.0 x.1.rule x.1.change) (left_at T cs h))

-- ── Fated ───────────────────────────────────────────────────────────────────────────────────────────────────

operation_most : (c : Change) → operation c ≤ 5
unfolding operation
operation_most (insert first_child x l) = omega arith
operation_most (insert after x l) = omega arith
operation_most (replace x y) = omega arith
operation_most (delete x) = omega arith
operation_most (replace_with_many x l) = omega arith
operation_most (replace_all x y l) = omega arith

-- the ends of a change that line 6 would not refuse are elements
right_ends : (T : Table) (c : Change) → Right T c → (target c < length T) × (end_of c < length T)
unfolding call target end_of
right_ends T (insert first_child x l) e = let b = below_E T (x ∷ l) (judged T _ e).within in (b.0, b.0)
right_ends T (insert after x l) e = let b = below_E T (x ∷ l) (judged T _ e).within in (b.0, b.0)
right_ends T (replace x y) e = let b = below_E T (x ∷ y ∷ []) (judged T _ e).within in (b.0, b.0)
right_ends T (delete x) e = let b = below_E T (x ∷ []) (judged T _ e).within in (b.0, b.0)
right_ends T (replace_with_many x l) e = let b = below_E T (x ∷ l) (judged T _ e).within in (b.0, b.0)
right_ends T (replace_all x y l) e = let b = below_E T (x ∷ y ∷ l) (judged T _ e).within in (b.0, b.1.0)

-- a call 2 of a node by a node has the number 2
owner_replaces : (T : Table) (op x y z : ℕ) (new : List ℕ) → node_by_node T (change_by op x y z new) ≡ true → op ≡ 2
unfolding change_by node_by_node
owner_replaces T zero x y z new e = bool_absurd e refl
owner_replaces T (suc zero) x y z new e = bool_absurd e refl
owner_replaces T (suc (suc zero)) x y z new e = refl
owner_replaces T (suc (suc (suc zero))) x y z new e = bool_absurd e refl
owner_replaces T (suc (suc (suc (suc zero)))) x y z new e = bool_absurd e refl
owner_replaces T (suc (suc (suc (suc (suc op))))) x y z new e = bool_absurd e refl

-- rows of things, with their fates
zip_map : {A : Type 0} (row : A → ChangeRow) (xs : List A) (fs : List Fate) → zip_with with_fate (map row xs) fs ≡ zip_with (λ x f. with_fate (row x) f) xs fs
unfolding zip_with
zip_map row [] fs = refl
zip_map row (x ∷ xs) [] = refl
zip_map row (x ∷ xs) (f ∷ fs) = ap {B = List ChangeRow} (λ l. with_fate (row x) f ∷ l) (zip_map row xs fs)

-- what holds of all rows holds of each
pub rows_each : (P : ChangeRow → Type 0) (c : ℕ) (w : List ℕ) → All P (rows_of c w) → (i : ℕ) → i < c → P (row_at w i)
unfolding rows_of row_at
rows_each P zero w h i b = absurd (omega arith)
rows_each P (suc c) w h zero b = h.0
rows_each P (suc c) w h (suc i) b =
    let e : 14 * suc i ≡ 14 + 14 * i = omega arith in
    rw (e, ← drop-drop (14 * i) 14 w) (rows_each P c (drop 14 w) h.1 i (omega arith))

-- what rewriting asks of them
pub rewritable : (n : ℕ) (T : Table) (listed : List ℕ) (c : ℕ) (w : List ℕ) → RowsFated n T listed c w → 14 * c ≤ length w → All (λ e. e < n) listed → Rewritable n listed w c
rewritable n T listed c w F fits elements =
    record { few = F.few; long = fits; elements = elements; stated = λ i h. (rows_each (Kept n T listed) c w F.kept i h).stated; owned = F.owned }

module _ (n : ℕ) (T : Table) (listed : List ℕ) (long : length T ≡ n) where
  -- the row of what is recorded, with its fate
  abbrev fated_row : ℕ × Recorded → Fate → ChangeRow
  fated_row y f = with_fate (row_for T y) f

  kept_one : (y : ℕ × Recorded) (f : Fate) → Known T listed y → Kept n T listed (fated_row y f)
  unfolding with_fate change_row
  kept_one y f k =
      let c : Change = y.1.change in
      let e = recorded_exact T listed y.0 y.1.rule f c k.stands in
      let b = right_ends T c k.right in
      record { exact = e; stated = exact_stated n T listed (with_fate (change_row T y.0 y.1.rule c) f) e (operation_most c) (omega (arith, b.0)) (omega (arith, b.1)) k.ends; ruled = k.ruled }

  zip_kept : (ys : List (ℕ × Recorded)) (fs : List Fate) → All (Known T listed) ys → All (Kept n T listed) (zip_with fated_row ys fs)
  unfolding zip_with
  zip_kept [] fs k = tt
  zip_kept (y ∷ ys) [] k = tt
  zip_kept (y ∷ ys) (f ∷ fs) k = (kept_one y f k.0, zip_kept ys fs k.1)

  row_planned : (y : ℕ × Recorded) (f : Fate) → Known T listed y → plan_of listed (fated_row y f) ≡ record { change = y.1.change; fate = f; rule = y.1.rule }
  unfolding plan_of with_fate change_row
  row_planned y f k = λ i. record { change = recorded_states T listed y.0 y.1.rule f y.1.change k.stands i; fate = fate_stated (row_for T y) f i; rule = y.1.rule }

  zip_planned : (ys : List (ℕ × Recorded)) (fs : List Fate) → All (Known T listed) ys → map (plan_of listed) (zip_with fated_row ys fs) ≡ with_fates (map snd ys) fs
  unfolding zip_with with_fates
  zip_planned [] fs k = refl
  zip_planned (y ∷ ys) [] k = refl
  zip_planned (y ∷ ys) (f ∷ fs) k = rw (row_planned y f k.0) (ap {B = List Planned} (λ l. record { change = y.1.change; fate = f; rule = y.1.rule } ∷ l) (zip_planned ys fs k.1))

  module _ (h : Choices) (cs : List Call) (known : All (Known T listed) (recorded_at cs)) where
    known_sorted : All (Known T listed) (sorted_at T cs)
    unfolding sorted_at rising
    known_sorted = sort_all (λ (x y : ℕ × Recorded). lower (key T x.1.change) (key T y.1.change)) (Known T listed) (recorded_at cs) known

    known_left : All (Known T listed) (left_at T cs h)
    unfolding left_at
    known_left = staying_all (Known T listed) (gone T cs h) (sorted_at T cs) known_sorted

    -- what becomes of the changes that stay
    abbrev fs : List Fate
    fs = fates_by h T (map (change_at T cs) (left_at T cs h))

    rows_fated : fated_rows T cs h ≡ zip_with fated_row (left_at T cs h) fs
    unfolding fated_rows
    rows_fated = rw (rows_left T cs h, changes_left T cs h) (zip_map (row_for T) (left_at T cs h) fs)

    -- by rule 0 the stacks of regions give them
    pub rule_0 : h.edge ≡ 0 → planned_rows (left_rows T cs h) ≡ fated_rows T cs h
    rule_0 e = rw (rows_left T cs h, rows_fated, fates_by_0 h T e (map (change_at T cs) (left_at T cs h))) (fates_told T (row_for T) (change_at T cs) (λ x. row_tells T x.0 x.1.rule x.1.change) (left_at T cs h))

    -- every row is exact and states a change of elements
    pub fated_kept : All (Kept n T listed) (fated_rows T cs h)
    fated_kept = rw rows_fated (zip_kept (left_at T cs h) fs known_left)

    -- the rows tell the definition's planned changes
    pub fated_planned : map (plan_of listed) (fated_rows T cs h) ≡ planned h T (left T cs h)
    unfolding planned
    fated_planned = rw (rows_fated, changes_left T cs h, recorded_left T cs h) (zip_planned (left_at T cs h) fs known_left)

    module _ (w : List ℕ) (c : ℕ) (rows : rows_of c w ≡ fated_rows T cs h) where
      abbrev R : List Recorded
      R = left T cs h

      abbrev S : List Change
      S = changes_of R

      stated_changes : map (change_of listed) (rows_of c w) ≡ S
      unfolding plan_of
      stated_changes =
          sym (map-map (λ (p : Planned). p.change) (plan_of listed) (rows_of c w))
          ∙ (ap (map (λ (p : Planned). p.change)) (ap (map (plan_of listed)) rows ∙ fated_planned) ∙ planned_changes h T R)

      counted : length S ≡ c
      counted = ap length (sym stated_changes) ∙ (length-map (rows_of c w) (change_of listed) ∙ length_rows_of c w)

      owned_each : (i : ℕ) → i < c → Owned T S (row_fate (row_at w i))
      unfolding plan_of
      owned_each =
          rows_each (λ r. Owned T S (row_fate r)) c w
          (map_All (λ (p : Planned). Owned T S p.fate) (plan_of listed) (rows_of c w)
          (rw (rows, fated_planned) (map_All (Owned T S) (λ (p : Planned). p.fate) (planned h T R) (rw (planned_fates h T R) (by_owned T S h)))))

      owner_at : (o : ℕ) → o < c → get_or S o (delete 0) ≡ change_of listed (row_at w o)
      owner_at o b =
          rw (← stated_changes, get_d_map (change_of listed) (rows_of c w) o (delete 0) no_change (rw (length_rows_of c w) b), row_among w c o no_change b)

      owner_is : (i : ℕ) → i < c → (row_at w i).fate ≡ 1 → ((row_at w i).owner < c) × ((row_at w (row_at w i).owner).operation ≡ 2)
      unfolding change_of
      owner_is i g f =
          let o : ℕ = (row_at w i).owner in
          let d : Owned T S (dependent o) = subst (Owned T S) (fate_dependent (row_at w i) f) (owned_each i g) in
          let b : o < c = omega (arith, d.0, counted) in
          let r : ChangeRow = row_at w o in
          (b, owner_replaces T r.operation r.target r.end (get_or listed r.list 0) (new_of listed r) (rw (owner_at o b) at d.1))

      -- so the second stage may go on with the rows
      pub fated_rows_lem : c ≤ 256 → RowsFated n T listed c w
      fated_rows_lem few = record { few = few; kept = rw rows fated_kept; owned = owner_is }

-- ── By rule 1 ───────────────────────────────────────────────────────────────────────────────────────────────

-- any other number than 0 gives rule 1 (17 lets only 1 pass)
rule_else : (h : Choices) (T : Table) → ¬ (h.edge ≡ 0) → (cs : List Change) → fates_by h T cs ≡ fates1 T cs
unfolding fates_by
rule_else h T e cs = rw (ne_eqb h.edge 0 e) refl

-- by rule 1 the words of the table give them
module _ (n : ℕ) (t s : List ℕ) (W : Wellformed n t s) (listed : List ℕ) (h : Choices) (cs : List Call) (known : All (Known (view n t s) listed) (recorded_at cs)) where
  row_known : (y : ℕ × Recorded) → Known (view n t s) listed y → RowTells n t s W (row_for (view n t s)) (change_at (view n t s) cs) y
  row_known y k = record { placed = row_placed (view n t s) y.0 y.1.rule y.1.change; sits = right_sits (view n t s) y.1.change k.right }

  pub rule_1 : ¬ (h.edge ≡ 0) → (c : ℕ) (v : List ℕ) → rows_of c v ≡ left_rows (view n t s) cs h → edge_rows t c v ≡ fated_rows (view n t s) cs h
  rule_1 e c v rows =
      let T : Table = view n t s in
      let ys : List (ℕ × Recorded) = left_at T cs h in
      rw (rows_fated n T listed (length_view n t s) h cs known, rule_else h T e (map (change_at T cs) ys))
      (edge_fates_told n t s W (row_for T) (change_at T cs) c v ys (rows ∙ rows_left T cs h) (All-map row_known ys (known_left n T listed (length_view n t s) h cs known)))

  -- ── Stronger rules first ──

  -- with the choice on the words of the rows and of the table tell what is withdrawn
  pub gone_on : ¬ (h.stronger ≡ 0) → (c : ℕ) (v : List ℕ) → rows_of c v ≡ sorted_rows (view n t s) cs → map told (withdrawals t v c) ≡ gone (view n t s) cs h
  unfolding withdrawals_by
  gone_on e c v rows =
      let T : Table = view n t s in
      let ys : List (ℕ × Recorded) = sorted_at T cs in
      rw (ne_eqb h.stronger 0 e, recorded_sorted T cs)
      (withdrawals_told n t s W (row_for T) snd (λ y. row_ruled T y.0 y.1) v c ys (rows ∙ rows_sorted T cs)
      (All-map (λ y k. right_sits T y.1.change k.right) ys (known_sorted n T listed (length_view n t s) h cs known)))
