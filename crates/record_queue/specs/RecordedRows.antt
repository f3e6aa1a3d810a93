-- Recording on rows: which row a call 2 or 3 meets, and what it makes of it.
-- Assumes nothing.
use Rattle.std.specs.Prelude.{Bool, ◌&&◌, ◌||◌, ◌≡◌, ℕ, ◌+◌, ◌*◌, ◌≤◌, length, get_or, take, drop, eqb}
use Rattle.std.proofs.Math.Bool.{true, false, cond}
use mathlib.Core.List.{List, [], ◌∷◌, ◌++◌, map}
use Rattle.std.proofs.Math.Option
use Rattle.std.proofs.Math.Option.{Option}
use Rattle.std.proofs.Math.Path.{refl}
use Rattle.std.proofs.Common.{sym, ap, ◌∙◌, get_or-drop, add-zero}
use Rattle.orders.specs.Lists.{All}
use Rattle.definition.specs.Elements.{Table}
use Rattle.definition.specs.Refusals.{Call}
use Rattle.definition.specs.Recording.{Recorded, first_child, after, Change, insert, replace, delete, replace_with_many, replace_all, merges, replaces_by, idle}
use Rattle.definition.specs.Planning.{target}
use Rattle.definition.specs.Running.{news}
use Rattle.record_changes.specs.ChangeRow.{ChangeRow, rows_of, operation, change_row}
use Rattle.record_changes.specs.ChangeRowLaws.{rows_words}
use Rattle.record_queue.specs.Queueing.{Asks, put, through, through_map}
use Rattle.record_queue.specs.Recorded.{meets, meets_at, merged_at, merged_keeps, all_asked, recorded_at, StandsIn}
use Rattle.orders.specs.ListLaws.{head_taken}

-- "Only 2 and 3 merge."
unfoldable pub is_single : ℕ → Bool
is_single op = eqb op 2 || eqb op 3

-- a change of the target x whose operation merges, and the earlier row s
unfoldable pub meets_single : ℕ → ChangeRow → Bool
meets_single x s = is_single s.operation && eqb x s.target

-- a change of the operation op and target x, and the earlier row s
unfoldable pub meets_by : ℕ → ℕ → ChangeRow → Bool
meets_by op x s = is_single op && meets_single x s

abbrev pub meets_row : ChangeRow → ChangeRow → Bool
meets_row r s = meets_by r.operation r.target s

-- a later change of the operation op, whose first element stands at `at` in the batch's list L, has no effect on the row s: a delete stays, and so does a replacement
-- by the same element
unfoldable pub idle_by : List ℕ → ℕ → ℕ → ChangeRow → Bool
idle_by L op at s = eqb s.operation 3 || (eqb s.operation 2 && (eqb op 2 && eqb (get_or L s.list 0) (get_or L at 0)))

-- such a row stays as it is, its rule number included; any other gives way
unfoldable pub merged_row : List ℕ → ChangeRow → ChangeRow → ChangeRow
merged_row L r s = cond (idle_by L r.operation r.list s) s r

module _ (T : Table) where
  -- the row of what is recorded, with the place of its elements
  abbrev pub row_for : ℕ × Recorded → ChangeRow
  row_for p = change_row T p.0 p.1.rule p.1.change

  -- THE ROWS of what is recorded
  unfoldable pub change_rows : List Call → List ChangeRow
  change_rows cs = map row_for (recorded_at cs)

  -- what calls ask, as rows
  abbrev pub rows_asked : ℕ → List Call → List (Option ChangeRow)
  rows_asked at cs = map (Option.map row_for) (all_asked at cs)

  meets_change : (i j m n : ℕ) (c d : Change) → meets_row (change_row T i m c) (change_row T j n d) ≡ meets c d
  unfolding meets_by meets_single is_single change_row operation target meets merges
  meets_change i j m n (insert first_child x l) d = refl
  meets_change i j m n (insert after x l) d = refl
  meets_change i j m n (replace_with_many x l) d = refl
  meets_change i j m n (replace_all x y l) d = refl
  meets_change i j m n (replace x y) (insert first_child z l) = refl
  meets_change i j m n (replace x y) (insert after z l) = refl
  meets_change i j m n (replace x y) (replace z l) = refl
  meets_change i j m n (replace x y) (delete z) = refl
  meets_change i j m n (replace x y) (replace_with_many z l) = refl
  meets_change i j m n (replace x y) (replace_all z v l) = refl
  meets_change i j m n (delete x) (insert first_child z l) = refl
  meets_change i j m n (delete x) (insert after z l) = refl
  meets_change i j m n (delete x) (replace z l) = refl
  meets_change i j m n (delete x) (delete z) = refl
  meets_change i j m n (delete x) (replace_with_many z l) = refl
  meets_change i j m n (delete x) (replace_all z v l) = refl

  meets_row_lem : (c d : ℕ × Recorded) → meets_row (row_for c) (row_for d) ≡ meets_at c d
  meets_row_lem c d = meets_change c.0 d.0 c.1.rule d.1.rule c.1.change d.1.change

  module _ (L : List ℕ) where
    -- the element of a call 2
    listed_first : (at y : ℕ) → take 1 (drop at L) ≡ y ∷ [] → get_or L at 0 ≡ y
    listed_first at y h = ap (λ (i : ℕ). get_or L i 0) (sym (add-zero at)) ∙ (sym (get_or-drop at L 0 0) ∙ head_taken (drop at L) h)

    idle_row : (i j m n : ℕ) (c d : Change) → take (length (news c)) (drop i L) ≡ news c → take (length (news d)) (drop j L) ≡ news d → idle c d ≡ idle_by L (operation c) i (change_row T j n d)
    unfolding idle replaces_by idle_by change_row operation news
    idle_row i j m n c (insert first_child z l) a b = refl
    idle_row i j m n c (insert after z l) a b = refl
    idle_row i j m n c (delete z) a b = refl
    idle_row i j m n c (replace_with_many z l) a b = refl
    idle_row i j m n c (replace_all z v l) a b = refl
    idle_row i j m n (insert first_child x k) (replace z v) a b = refl
    idle_row i j m n (insert after x k) (replace z v) a b = refl
    idle_row i j m n (delete x) (replace z v) a b = refl
    idle_row i j m n (replace_with_many x k) (replace z v) a b = refl
    idle_row i j m n (replace_all x y k) (replace z v) a b = refl
    idle_row i j m n (replace x y) (replace z v) a b = rw (listed_first i y a, listed_first j v b)

    merged_row_lem : (c d : ℕ × Recorded) → StandsIn L c → StandsIn L d → row_for (merged_at c d) ≡ merged_row L (row_for c) (row_for d)
    unfolding merged_at merged_row change_row
    merged_row_lem c d a b =
        rw (← idle_row c.0 d.0 c.1.rule d.1.rule c.1.change d.1.change a b) (go (idle c.1.change d.1.change))
      where
        go : (t : Bool) → row_for (cond t d c) ≡ cond t (row_for d) (row_for c)
        go true = refl
        go false = refl

    pub rows_through : (cs : List Call) → All (Asks (StandsIn L)) (all_asked 0 cs) → change_rows cs ≡ through meets_row (merged_row L) [] [] (rows_asked 0 cs)
    unfolding change_rows recorded_at
    rows_through cs h = through_map meets_at merged_at meets_row (merged_row L) row_for (StandsIn L) (merged_keeps (StandsIn L)) meets_row_lem merged_row_lem [] [] (all_asked 0 cs) tt h

-- w with the row r recorded among those from `start` on is w': so many rows then
pub record Put (L : List ℕ) (r : ChangeRow) (start count : ℕ) (w : List ℕ) (count' : ℕ) (w' : List ℕ) : Type 0 where
  pub low : count ≤ count'
  pub high : count' ≤ count + 1
  pub rows : rows_of count' w' ≡ take start (rows_of count w) ++ put meets_row (merged_row L) r (drop start (rows_of count w))
  pub beyond : drop (14 * count') w' ≡ drop (14 * count') w

-- THE PROMISE: the words w with the rows rs in front are w'; how many rows there are, no more than calls
pub record RowsRecorded (calls : ℕ) (rs : List ChangeRow) (w : List ℕ) (count : ℕ) (w' : List ℕ) : Type 0 where
  pub few : count ≤ calls
  pub counted : count ≡ length rs
  pub written : w' ≡ rows_words rs ++ drop (14 * length rs) w
