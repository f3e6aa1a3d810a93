-- What the functions that judge a list of splices promise. Text is not read, so that each promise holds for any.
-- Assumes nothing.
use Rattle.std.specs.Prelude.{◌≡◌, Bool, true, List, ℕ}
use Rattle.orders.proofs.Check.{pairs}
use Rattle.rows_model.specs.Row.{triples, first_rows}
use Rattle.splices_model.specs.Cuts.{cuts_to}
use Rattle.splices_model.specs.Verdict.{closed, tree_rows, fit_at, fits_to, apart_cut, first_wrong, judged_by}

-- a run of words spells whole trees
pub record Closes (run : List ℕ) (r : Bool) : Type 0 where
  pub says : (text : List ℕ) → r ≡ closed (triples text run)

-- splice j fits the old tree
pub record FitsAt (rows : List ℕ) (e : ℕ) (splices prepared : List ℕ) (j : ℕ) (r : Bool) : Type 0 where
  pub says : (text : List ℕ) → r ≡ fit_at text rows e splices prepared j

-- each of the first c does
pub record FitsAll (rows : List ℕ) (e : ℕ) (splices prepared : List ℕ) (c : ℕ) (r : Bool) : Type 0 where
  pub says : (text : List ℕ) → r ≡ fits_to text rows e splices prepared c

-- a run of words is one whole tree
pub record OneTree (run : List ℕ) (r : Bool) : Type 0 where
  pub says : (text : List ℕ) → r ≡ tree_rows (triples text run)

-- the first refusal of a list where there is room
pub record Fitted (rows : List ℕ) (e : ℕ) (splices prepared : List ℕ) (c r : ℕ) : Type 0 where
  pub says : (text : List ℕ) → r ≡ first_wrong true true (tree_rows (first_rows text e rows)) (fits_to text rows e splices prepared c) (pairs (apart_cut (first_rows text e rows)) (cuts_to text splices prepared c))

-- the first refusal
pub record Judged (rows : List ℕ) (e : ℕ) (splices prepared : List ℕ) (c r : ℕ) : Type 0 where
  pub says : (text : List ℕ) → r ≡ judged_by text rows e splices prepared c
