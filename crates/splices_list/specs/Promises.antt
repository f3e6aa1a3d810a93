-- What the functions on a list of splices promise, part by part. Text is not read, so that each promise holds for any.
-- Assumes nothing.
use Rattle.std.specs.Prelude.{◌≡◌, Result, List, ℕ, ◌+◌, ◌*◌, ◌≤◌, length, take, drop}
use Rattle.orders.specs.Tree.{Tree}
use Rattle.orders.specs.Splices.{Splice, begin, AllApart}
use Rattle.definition.specs.Basics.{Answer, refused, gives}
use Rattle.rows_model.specs.Row.{first_rows, rows_of}
use Rattle.splices_model.specs.Bounds.{BoundedAll, rows_to}
use Rattle.splices_model.specs.Verdict.{Room}
use Rattle.splices_model.specs.Cuts.{Holds, Told, state_of}
use Rattle.splices_model.specs.Refusals.{answered}
use Rattle.splices_model.specs.declared.SpliceRefusal.{SpliceRefusal}
use Rattle.splices_model.specs.SpliceList.{Left, filled, splice_list}
use Rattle.splices_list.specs.Plain.{plain}

-- the first c splices done, from the first to the last: the state that the law leaves, for every list of them that is apart
pub record Listed (rows : List ℕ) (n : ℕ) (marks splices prepared : List ℕ) (c : ℕ) (out marked : List ℕ) (r : ℕ) : Type 0 where
  pub done : (text : List ℕ) (old : Tree ℕ) (D : List (Splice ℕ)) → Holds text old (begin old) rows n marks → Told text old splices prepared c D → AllApart old D → Holds text old (state_of old D) out r marked
  pub few : r ≤ n + rows_to splices c
  pub beyond : drop (3 * (n + rows_to splices c)) out ≡ drop (3 * (n + rows_to splices c)) rows

-- the words of the first c splices are in bounds, where the old tree has a row for each mark, and there is room
pub record Good (rows marks splices prepared : List ℕ) (c : ℕ) : Type 0 where
  pub room : Room (length rows) (length marks) splices prepared c
  pub bounds : BoundedAll (length marks) splices prepared c

-- they are done, from the old tree on
pub record ListedAll (rows marks splices prepared : List ℕ) (c : ℕ) (out marked : List ℕ) (r : ℕ) : Type 0 where
  pub done : (text : List ℕ) (old : Tree ℕ) (D : List (Splice ℕ)) → first_rows text (length marks) rows ≡ rows_of old → Told text old splices prepared c D → AllApart old D → Holds text old (state_of old D) out r marked
  pub few : r ≤ length marks + rows_to splices c
  pub beyond : drop (3 * (length marks + rows_to splices c)) out ≡ drop (3 * (length marks + rows_to splices c)) rows

-- and what that left is tidied
pub record Tidied (rows marks splices prepared : List ℕ) (c : ℕ) (out marked : List ℕ) (r : ℕ) : Type 0 where
  pub left : List ℕ
  pub long : length left ≡ length rows
  pub listed : ListedAll rows marks splices prepared c left marked r
  pub is : out ≡ filled (take (3 * r) (plain r left)) (3 * (length marks + rows_to splices c)) left

-- ── The promise ─────────────────────────────────────────────────────────────────────────────────────────────

-- the outcome of an answer
unfoldable pub outcome_of : Answer Left → Answer ℕ
outcome_of (refused n) = refused n
outcome_of (gives l) = gives l.many

-- what the rows slice holds then, which held `held`: on refusal all that it held
unfoldable pub rows_left : List ℕ → Answer Left → List ℕ
rows_left held (refused n) = held
rows_left held (gives l) = l.rows

-- what the marks hold then
unfoldable pub marks_left : List ℕ → Answer Left → List ℕ
marks_left held (refused n) = held
marks_left held (gives l) = l.marks

-- THE PROMISE of `splice_all`: the outcome and every word of both slices are those of the definition, from what was lent
pub record Spliced (rows marks splices prepared out marked : List ℕ) (r : Result ℕ SpliceRefusal) : Type 0 where
  pub outcome : answered r ≡ outcome_of (splice_list rows marks splices prepared)
  pub result : out ≡ rows_left rows (splice_list rows marks splices prepared)
  pub moved : marked ≡ marks_left marks (splice_list rows marks splices prepared)
