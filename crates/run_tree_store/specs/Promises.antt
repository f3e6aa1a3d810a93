-- What the functions promise. Text, notes and changed elements are not read, so that each promise holds for any.
-- Assumes nothing.
use Rattle.std.specs.Prelude as prelude
use Rattle.std.specs.Prelude.{◌≡◌, List, ℕ, ◌*◌, length}
use Rattle.std.proofs.Math.Option.{map}
use Rattle.read_element_table.specs.View.{view}
use Rattle.rows_model.specs.Row.{triples}
use Rattle.run_model.specs.Store.{HeldNote, HeldChanged, marked, part_of, gap_of, gap_after, gap_run}
use Rattle.run_tree_store.specs.Stored.{stored, stored_first}
use Rattle.run_tree_store.specs.Gaps.{gap_by, held, site_of}
use Rattle.run_tree_store.specs.declared.Gap.{Gap}

-- the rows that element e yields, as a run of words
pub record Prepared (rows : List ℕ) (n : ℕ) (source marks : List ℕ) (e : ℕ) (run : List ℕ) : Type 0 where
  pub told : (text : List ℕ) (notes₀ notes : List HeldNote) (changed₀ changed : List HeldChanged)
      → triples text run ≡ (part_of (stored_first text (length marks) source notes₀ changed₀) (stored text n rows marks notes changed) e).rows
  pub long : (text : List ℕ) → length run ≡ 3 * length (triples text run)

-- the element x at row m gives way
pub record GapOf (rows : List ℕ) (n : ℕ) (table marks : List ℕ) (x m : ℕ) (r : Gap) : Type 0 where
  pub gap : (text source : List ℕ) (notes : List HeldNote) (changed : List HeldChanged) → r ≡ held (gap_of (view (length marks) table source) (stored text n rows marks notes changed) x m)

-- the place behind it
pub record GapAfter (rows : List ℕ) (n : ℕ) (table marks : List ℕ) (x m : ℕ) (r : Gap) : Type 0 where
  pub gap : (text source : List ℕ) (notes : List HeldNote) (changed : List HeldChanged) → r ≡ held (gap_after (view (length marks) table source) (stored text n rows marks notes changed) x m)

-- the run from it to the element at row k
pub record GapRun (rows : List ℕ) (n : ℕ) (table marks : List ℕ) (x m k : ℕ) (r : Gap) : Type 0 where
  pub gap : (text source : List ℕ) (notes : List HeldNote) (changed : List HeldChanged) → r ≡ held (gap_run (view (length marks) table source) (stored text n rows marks notes changed) x m k)

-- the run from it to the element y
pub record RunSite (rows : List ℕ) (n : ℕ) (table marks : List ℕ) (x m y : ℕ) (r : prelude.Option Gap) : Type 0 where
  pub site : (text source : List ℕ) (notes : List HeldNote) (changed : List HeldChanged)
      → r ≡ site_of (map (gap_run (view (length marks) table source) (stored text n rows marks notes changed) x m) (marked (stored text n rows marks notes changed) y))

-- where a change goes, by its operation, its target and its end
pub record SiteAt (rows : List ℕ) (n : ℕ) (table marks : List ℕ) (op x y : ℕ) (r : prelude.Option Gap) : Type 0 where
  pub site : (text source : List ℕ) (notes : List HeldNote) (changed : List HeldChanged) → r ≡ site_of (gap_by (view (length marks) table source) (stored text n rows marks notes changed) op x y)
