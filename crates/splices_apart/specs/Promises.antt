-- What the functions that tell splices apart promise. Text and prepared rows are not read, so that each promise holds for any.
-- Assumes nothing.
use Rattle.std.specs.Prelude.{◌≡◌, Bool, List, ℕ, ◌+◌, ◌*◌, ◌<◌, get_or}
use Rattle.orders.proofs.Check.{each, pairs}
use Rattle.rows_model.specs.Row.{first_rows}
use Rattle.splices_model.specs.Cuts.{cut_at, cuts_to}
use Rattle.splices_model.specs.Verdict.{enters_cut, overlap_cut, apart_cut}

-- the row x is one of those that splice i deletes
pub record EntersAt (rows : List ℕ) (e : ℕ) (splices : List ℕ) (i x : ℕ) (r : Bool) : Type 0 where
  pub says : (text prepared : List ℕ) → r ≡ enters_cut (first_rows text e rows) (cut_at text splices prepared i) x

-- the runs of splices i and j are in one parent and overlap
pub record Overlaps (splices : List ℕ) (i j : ℕ) (r : Bool) : Type 0 where
  pub says : (text prepared : List ℕ) → r ≡ overlap_cut (cut_at text splices prepared i) (cut_at text splices prepared j)

-- the parents of the first k splices are rows of the old tree
pub record RowsTo (e : ℕ) (splices : List ℕ) (k : ℕ) : Type 0 where
  pub row : (j : ℕ) → j < k → get_or splices (6 * j + 1) 0 < e

-- splices i and j are apart
pub record ApartAt (rows : List ℕ) (e : ℕ) (splices : List ℕ) (i j : ℕ) (r : Bool) : Type 0 where
  pub says : (text prepared : List ℕ) → r ≡ apart_cut (first_rows text e rows) (cut_at text splices prepared i) (cut_at text splices prepared j)

-- splice i is apart from each of the first j
pub record ApartFrom (rows : List ℕ) (e : ℕ) (splices : List ℕ) (i j : ℕ) (r : Bool) : Type 0 where
  pub says : (text prepared : List ℕ) → r ≡ each (apart_cut (first_rows text e rows) (cut_at text splices prepared i)) (cuts_to text splices prepared j)

-- any two of the first c are apart
pub record ApartAll (rows : List ℕ) (e : ℕ) (splices : List ℕ) (c : ℕ) (r : Bool) : Type 0 where
  pub says : (text prepared : List ℕ) → r ≡ pairs (apart_cut (first_rows text e rows)) (cuts_to text splices prepared c)
