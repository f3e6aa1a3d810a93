-- Where a change goes, by the change's numbers, as the code answers it.
-- Assumes nothing.
use Rattle.std.specs.Prelude as prelude
use Rattle.std.specs.Prelude.{◌≡◌, None, Some, refl, cond, List, ℕ, zero, suc, ◌+◌, ◌*◌, ◌<◌, length, get_or, eqb}
use Rattle.std.proofs.Common.{sym, ap, ◌∙◌}
use Rattle.std.proofs.Math.Option.{Option, none, some, map, bind}
use Rattle.definition.specs.Elements.{Table, root?, tree}
use Rattle.definition.specs.Recording.{first_child, after, Change, insert, replace, delete, replace_with_many, replace_all}
use Rattle.definition.specs.Planning.{target}
use Rattle.read_element_table.specs.View.{view}
use Rattle.read_element_table.specs.Wellformed.{Lines}
use Rattle.read_element_table.specs.Told.{element_of, parent_told}
use Rattle.rows_model.specs.Place.{child_row}
use Rattle.run_model.specs.Store as model
use Rattle.run_model.specs.Store.{Store, marked, row_or_top, parent_row, gap_of, gap_after, gap_run, gap}
use Rattle.record_changes.specs.ChangeRow.{operation, end_of}
use Rattle.run_tree_store.specs.declared.Gap.{Gap}

-- the row of the element that a word names: 0 none, p + 1 element p
abbrev pub mark_or_top : List ℕ → ℕ → ℕ
mark_or_top marks zero = 0
mark_or_top marks (suc p) = get_or marks p 0

-- the row of an element's parent, by the table's word
unfoldable pub parent_mark : List ℕ → List ℕ → ℕ → ℕ
parent_mark table marks x = mark_or_top marks (get_or table (8 * x + 1) 0)

pub parent_mark_lem : (table source : List ℕ) (s : Store) (x : ℕ) → Lines (length s.marks) table → x < length s.marks → parent_mark table s.marks x ≡ parent_row (view (length s.marks) table source) s x
unfolding parent_mark parent_row element_of
parent_mark_lem table source s x L h = go (get_or table (8 * x + 1) 0) ∙ ap (row_or_top s) (sym (parent_told (length s.marks) table source L x h))
  where
    go : (k : ℕ) → mark_or_top s.marks k ≡ row_or_top s (element_of k)
    go zero = refl
    go (suc p) = refl

-- where a change goes whose target stands at a row, by its operation, its target and its end
unfoldable pub gap_marked : Table → Store → ℕ → ℕ → ℕ → Option ℕ → Option model.Gap
gap_marked T s op x y none = none
gap_marked T s op x y (some m) =
    cond (eqb op 0) (some (record { parent = m; from = suc m; to = suc m; lost = 0 }))
    (cond (eqb op 1) (some (gap_after T s x m)) (cond (eqb op 5) (map (gap_run T s x m) (marked s y)) (some (gap_of T s x m))))

-- where a change goes, by its operation, its target and its end
unfoldable pub gap_by : Table → Store → ℕ → ℕ → ℕ → Option model.Gap
gap_by T s op x y = cond (eqb op 2) (map (gap_of T s x) (cond (root? T x) (some (child_row s.rows 0 (tree T x))) (marked s x))) (gap_marked T s op x y (marked s x))

-- By its numbers a change goes where it goes.
pub gap_by_lem : (T : Table) (s : Store) (c : Change) → gap_by T s (operation c) (target c) (end_of c) ≡ gap T s c
unfolding gap_by gap_marked gap operation target end_of bind
gap_by_lem T s (insert first_child x l) = go (marked s x)
  where
    go : (o : Option ℕ) → gap_marked T s 0 x x o ≡ map (λ m. record { parent = m; from = suc m; to = suc m; lost = 0 }) o
    go none = refl
    go (some m) = refl
gap_by_lem T s (insert after x l) = go (marked s x)
  where
    go : (o : Option ℕ) → gap_marked T s 1 x x o ≡ map (gap_after T s x) o
    go none = refl
    go (some m) = refl
gap_by_lem T s (replace x y) = refl
gap_by_lem T s (delete x) = go (marked s x)
  where
    go : (o : Option ℕ) → gap_marked T s 3 x x o ≡ map (gap_of T s x) o
    go none = refl
    go (some m) = refl
gap_by_lem T s (replace_with_many x l) = go (marked s x)
  where
    go : (o : Option ℕ) → gap_marked T s 4 x x o ≡ map (gap_of T s x) o
    go none = refl
    go (some m) = refl
gap_by_lem T s (replace_all x y l) = go (marked s x)
  where
    go : (o : Option ℕ) → gap_marked T s 5 x y o ≡ bind o (λ m. map (gap_run T s x m) (marked s y))
    go none = refl
    go (some m) = refl

-- a gap as the code holds it
unfoldable pub held : model.Gap → Gap
held g = record { parent = g.parent; from = g.from; to = g.to; lost = g.lost }

-- a gap or none, as the code answers it
unfoldable pub site_of : Option model.Gap → prelude.Option Gap
site_of none = None
site_of (some g) = Some (held g)
