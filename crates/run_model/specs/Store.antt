-- The run as the code holds it: the current trees are rows, and each element, note and changed element is the row where it stands.
-- Assumes nothing.
use Rattle.std.specs.Prelude.{Bool, cond, ◌||◌, ℕ, zero, suc, ◌+◌, ◌-◌, length, get_or, ltb}
use mathlib.Core.List.{List, [], ◌∷◌, ◌++◌, map, flat_map}
use Rattle.std.proofs.Math.Option
use Rattle.std.proofs.Math.Option.{Option, none, some, bind}
use Rattle.orders.specs.Lists.{pick}
use Rattle.orders.specs.Tree.{Tree, shift}
use Rattle.definition.specs.Basics.{Answer, gives, ◌>>=◌, refuse, or_refuse}
use Rattle.definition.specs.Elements.{Table, root?, parent, depth, tree}
use Rattle.definition.specs.Recording.{first_child, after, Change, insert, replace, delete, replace_with_many, replace_all}
use Rattle.definition.specs.Planning.{Planned}
use Rattle.definition.specs.Rewriting.{Note}
use Rattle.definition.specs.Running.{Changed, World, news, recorded_by}
use Rattle.rows_model.specs.Row.{Row, rows_of, bytes, height, trees_in}
use Rattle.rows_model.specs.Place.{place, rows_after, child_row, between, subtree, splice_rows, mark_of, moved_mark, in_run}

-- ── What the code holds ─────────────────────────────────────────────────────────────────────────────────────

-- a note: its row, its number, its place in the queue
pub record HeldNote : Type 0 where
  pub row : ℕ
  pub number : ℕ
  pub place : ℕ

-- a changed element: its row, and the rule number of the change that put it in
pub record HeldChanged : Type 0 where
  pub row : ℕ
  pub rule : ℕ

pub record Store : Type 0 where
  -- all current trees, the root of all first
  pub rows : List Row
  -- by element: its row, 0 once its path is dropped
  pub marks : List ℕ
  -- the notes, in the order in which they are held
  pub notes : List HeldNote
  -- what is recorded as changed, in the order of time
  pub changed : List HeldChanged

-- a note of the definition by its row
unfoldable pub held_note : Tree ℕ → Note → HeldNote
held_note t n = record { row = place n.path t; number = n.number; place = n.place }

-- a changed element of the definition by its row
unfoldable pub held_changed : Tree ℕ → Changed → HeldChanged
held_changed t c = record { row = place c.0 t; rule = c.1 }

-- what the definition holds, in rows
unfoldable pub store : World → Store
store w = record {
  rows = rows_of w.trees;
  marks = map (mark_of w.trees) w.paths;
  notes = map (held_note w.trees) w.notes;
  changed = map (held_changed w.trees) w.changed;
}

-- the same note at another row
unfoldable pub with_row : HeldNote → ℕ → HeldNote
with_row n row = record { row = row; number = n.number; place = n.place }

-- the same changed element at another row
unfoldable pub at_row : HeldChanged → ℕ → HeldChanged
at_row c row = record { row = row; rule = c.rule }

-- what a change by this rule puts in at a row
abbrev pub put_in : ℕ → ℕ → HeldChanged
put_in rule row = record { row = row; rule = rule }

-- a mark that is not 0
abbrev pub there : ℕ → Option ℕ
there zero = none
there (suc m) = some (suc m)

-- the row of element e, none once its path is dropped
unfoldable pub marked : Store → ℕ → Option ℕ
marked s e = there (get_or s.marks e 0)

-- ── Where a change goes ─────────────────────────────────────────────────────────────────────────────────────

-- the rows `from` up to `to` below the row `parent`, which are `lost` trees
pub record Gap : Type 0 where
  pub parent : ℕ
  pub from : ℕ
  pub to : ℕ
  pub lost : ℕ

-- the row of an element, and of none the root of all
abbrev pub row_or_top : Store → Option ℕ → ℕ
row_or_top s none = 0
row_or_top s (some p) = get_or s.marks p 0

-- the row of the parent of element x: the root of all for a root
unfoldable pub parent_row : Table → Store → ℕ → ℕ
parent_row T s x = row_or_top s (parent T x)

-- the row after the element at the row m and all that is below it
unfoldable pub end_row : Store → ℕ → ℕ
end_row s m = rows_after s.rows m 1

module _ (T : Table) (s : Store) where
  -- the element x at the row m gives way
  unfoldable pub gap_of : ℕ → ℕ → Gap
  gap_of x m = record { parent = parent_row T s x; from = m; to = end_row s m; lost = 1 }

  -- the place behind the element x at the row m
  unfoldable pub gap_after : ℕ → ℕ → Gap
  gap_after x m = record { parent = parent_row T s x; from = end_row s m; to = end_row s m; lost = 0 }

  -- the run from the element x at the row m to the element at the row k
  unfoldable pub gap_run : ℕ → ℕ → ℕ → Gap
  gap_run x m k = record { parent = parent_row T s x; from = m; to = end_row s k; lost = trees_in (between m (end_row s k) s.rows) }

  -- where a change goes; none if its target is gone. The root of a tree is found by counting
  unfoldable pub gap : Change → Option Gap
  gap (insert first_child x l) = Option.map (λ m. record { parent = m; from = suc m; to = suc m; lost = 0 }) (marked s x)
  gap (insert after x l) = Option.map (gap_after x) (marked s x)
  gap (replace x y) = Option.map (gap_of x) (cond (root? T x) (some (child_row s.rows 0 (tree T x))) (marked s x))
  gap (delete x) = Option.map (gap_of x) (marked s x)
  gap (replace_with_many x l) = Option.map (gap_of x) (marked s x)
  gap (replace_all x y l) = bind (marked s x) (λ m. Option.map (gap_run x m) (marked s y))

  -- the depth of the parent: 0 for the root of all
  unfoldable pub depth_above : Change → ℕ
  depth_above (insert first_child x l) = depth T x
  depth_above (insert after x l) = depth T x - 1
  depth_above (replace x y) = depth T x - 1
  depth_above (delete x) = depth T x - 1
  depth_above (replace_with_many x l) = depth T x - 1
  depth_above (replace_all x y l) = depth T x - 1

-- ── What a listed element yields ────────────────────────────────────────────────────────────────────────────

-- the rows of an element with all that is below it, and the notes there, told from its row
pub record Part : Type 0 where
  pub rows : List Row
  pub notes : List HeldNote

-- the element at the row m
unfoldable pub part_at : Store → ℕ → Part
part_at s m = record { rows = subtree s.rows m; notes = pick (λ n. Option.map (with_row n) (in_run m (end_row s m) n.row)) s.notes }

-- the element e as it stands, or once its path is dropped as it stood at first
unfoldable pub part_of : Store → Store → ℕ → Part
part_of first s e = elim (marked s e) [ none ↦ part_at first (get_or first.marks e 0) | some m ↦ part_at s m ]

-- all their rows
unfoldable pub new_rows : List Part → List Row
new_rows new = flat_map (λ y. y.rows) new

-- each with the row at which it comes to stand, the first at `at`
unfoldable pub placed_parts : ℕ → List Part → List (ℕ × Part)
placed_parts at [] = []
placed_parts at (y ∷ ys) = (at, y) ∷ placed_parts (at + length y.rows) ys

-- ── One step ────────────────────────────────────────────────────────────────────────────────────────────────

-- the rows of the gap give way to what is yielded; every mark, note and changed row moves by one rule. What comes in is recorded by the rule number told, or not
unfoldable pub spliced_store : Gap → List Part → Option ℕ → Store → Store
spliced_store g new recorded s =
    let m = length (new_rows new) in
    let move = shift g.from g.to m in
    let places = placed_parts g.from new in
    record {
      rows = splice_rows s.rows g.parent g.from g.to g.lost (new_rows new) (length new);
      marks = map (moved_mark g.from g.to m) s.marks;
      notes = pick (λ n. Option.map (with_row n) (move n.row)) s.notes ++ flat_map (λ y. map (λ n. with_row n (y.0 + n.row)) y.1.notes) places;
      changed = pick (λ c. Option.map (at_row c) (move c.row)) s.changed ++ elim recorded [ none ↦ [] | some rule ↦ map (λ y. put_in rule y.0) places ];
    }

-- 12, told before the step by what it would make: elements (the root of all is none), text bytes, notes, and the depth of what comes in
unfoldable pub store_too_large : ℕ → List Part → Store → Bool
store_too_large above new next =
    ltb 4097 (length next.rows) || ltb 16384 (bytes next.rows) || ltb 1024 (length next.notes) || ltb 64 (above + height (new_rows new))

-- one performed change: 11, 12, or what is held then
unfoldable pub store_step : Table → Store → Store → Planned → Answer Store
store_step T first s p = do
  g ← or_refuse 11 (gap T s p.change)
  let new = map (part_of first s) (news p.change)
  let next = spliced_store g new (recorded_by T p) s
  _ ← refuse 12 (store_too_large (depth_above T s p.change) new next)
  gives next

-- all performed changes, step by step
unfoldable pub store_steps : Table → Store → Store → List Planned → Answer Store
store_steps T first s [] = gives s
store_steps T first s (p ∷ ps) = do
  next ← store_step T first s p
  store_steps T first next ps
