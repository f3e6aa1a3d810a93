-- All that is held, and what a splice of it asks for and makes.
-- Assumes nothing.
use Rattle.std.specs.Prelude as prelude
use Rattle.std.specs.Prelude.{◌≡◌, ℕ, ◌+◌, ◌-◌, ◌*◌, ◌/◌, ◌^◌, ◌≤◌, ◌<◌, length, get_or}
use mathlib.Core.List.{List, map, flat_map}
use Rattle.orders.specs.Lists.{All, pick, meant}
use Rattle.rows_model.specs.Row.{triples, first_rows, bytes}
use Rattle.rows_model.specs.Place.{splice_rows}
use Rattle.rows_syntax_node.specs.Rising.{Rising}
use Rattle.run_model.specs.Store as model
use Rattle.run_model.specs.Store.{Store, with_row, Part, new_rows, placed_parts, spliced_store}
use Rattle.run_annotations.specs.Notes.{notes_of, notes_in}
use Rattle.run_annotations.specs.Changed.{changed_in, Ruled, count_by}
use Rattle.run_annotations.specs.Promises.{moved_note}
use Rattle.run_tree_store.specs.Stored.{stored}
use Rattle.run_tree_store.specs.declared.Gap.{Gap}
use Rattle.run_tree_state.specs.declared.TreeState.{TreeState}

-- the store that the words tell
abbrev pub held_in : List ℕ → TreeState → List ℕ → List ℕ → List ℕ → List ℕ → Store
held_in text s rows marks notes changed = stored text s.rows rows marks (notes_of s.notes notes) (changed_in s.changed changed)

-- a gap as the model has it
unfoldable pub gap_told : Gap → model.Gap
gap_told g = record { parent = g.parent; from = g.from; to = g.to; lost = g.lost }

-- parts in words: their rows as a run, the number of rows of each, and notes, told where the first part comes to stand at the row `at`
pub record Comes (text : List ℕ) (new : List Part) (at : ℕ) (run sizes incoming : List ℕ) : Type 0 where
  pub told : triples text run ≡ new_rows new
  pub each : sizes ≡ map (λ y. length y.rows) new
  pub noted : notes_in incoming ≡ flat_map (λ y. map (λ n. with_row n (y.0 + n.row)) y.1.notes) (placed_parts at new)

-- what is held has the gap, and there is room for as many parts as `gain`, recorded by a rule number or not
pub record Open (s : TreeState) (rows marks notes changed : List ℕ) (g : Gap) (recorded : prelude.Option ℕ) (gain : ℕ) : Type 0 where
  pub long : 3 * s.rows ≤ length rows
  pub few : s.rows ≤ 4097
  pub below : g.parent < g.from
  pub order : g.from ≤ g.to
  pub high : g.to ≤ s.rows
  pub marked : All (λ m. m < s.rows) marks
  pub risen : Rising marks
  pub node : 2147483648 ≤ get_or rows (3 * g.parent) 0
  pub lost : g.lost ≤ get_or rows (3 * g.parent + 1) 0
  pub gained : get_or rows (3 * g.parent + 1) 0 + gain < 2 ^ 32
  pub few_notes : s.notes ≤ 1024
  pub long_notes : 3 * s.notes ≤ length notes
  pub noted : All (λ n. n.row < 2 ^ 16) (notes_of s.notes notes)
  pub held : All (λ c. c.row < 2 ^ 16) (changed_in s.changed changed)
  pub room : s.changed + count_by recorded gain ≤ length changed
  pub ruled : Ruled recorded
  pub few_bytes : s.bytes ≤ 16384
  pub measured : (text : List ℕ) → s.bytes ≡ bytes (first_rows text s.rows rows)

-- there is room for what comes in, once the gap has given way
pub record RoomFor (s : TreeState) (rows notes : List ℕ) (g : Gap) (run incoming : List ℕ) : Type 0 where
  pub long : 3 * (s.rows - (g.to - g.from)) + length run ≤ length rows
  pub long_notes : 3 * (length (pick (moved_note g.from g.to (length run / 3)) (notes_of s.notes notes)) + length incoming / 3) ≤ length notes

-- the rows of the gap have given way to what comes in
pub record StoreSpliced (s : TreeState) (rows marks notes changed : List ℕ) (g : Gap) (recorded : prelude.Option ℕ) (run sizes incoming : List ℕ) (bytes : ℕ) (rows' marks' notes' changed' : List ℕ) (r : TreeState) : Type 0 where
  pub store : (text : List ℕ) (new : List Part) → Comes text new g.from run sizes incoming → held_in text r rows' marks' notes' changed' ≡ spliced_store (gap_told g) new (meant recorded) (held_in text s rows marks notes changed)
  pub told : (text : List ℕ) → first_rows text r.rows rows' ≡ splice_rows (first_rows text s.rows rows) g.parent g.from g.to g.lost (triples text run) (length sizes)
  pub measured : r.bytes ≡ bytes
  pub place : r.root ≡ s.root
  pub most : r.changed ≤ s.changed + count_by recorded (length sizes)
  pub count : r.rows ≡ s.rows - (g.to - g.from) + length run / 3
  pub risen : Rising marks'
