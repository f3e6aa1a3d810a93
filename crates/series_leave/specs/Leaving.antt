-- At the end of an accepted batch: what is known, and that both slices then hold what the definition leaves.
-- Assumes nothing.
use Rattle.std.specs.Prelude.{◌≡◌, refl, false, List, ℕ, ◌+◌, ◌*◌, ◌^◌, ◌≤◌, ◌<◌, ltb, length, get_or}
use Rattle.std.proofs.Common.{◌∙◌, ltb-false}
use Rattle.definition.specs.Basics.{gives}
use Rattle.definition.specs.Choices.{Choices}
use Rattle.rows_model.specs.Row.{rows_of, first_rows, bytes}
use Rattle.series_laws.specs.Memory.{Memory, most_later}
use Rattle.series_laws.specs.Follow.{Step}
use Rattle.series_laws.specs.Lent.{Lent, tree_bytes, tree_out, over, lent, left_in}
use Rattle.series_laws.proofs.Passing.{Done}
use Rattle.series_move.specs.Packing.{Moving, bookmarks_after}
use Rattle.series_move.specs.Ready.{LeftBy, ready_moving, ready_room, ready_left}
use Rattle.series_tree.specs.New.{new_in, room_left, tree_left}

-- the two slices of a memory
abbrev pub lent_of : List ℕ → List ℕ → Lent
lent_of tree bookmarks = record { tree = tree; bookmarks = bookmarks }

-- a batch on a lent memory is not refused, its new tree fits, and its run has left these words; `text` is the text of all
pub record Leaving (source : List ℕ) (e : ℕ) (marks rows : List ℕ) (n : ℕ) (text tree bookmarks : List ℕ) : Type 0 where
  pub choices : Choices
  pub batch : List ℕ
  pub memory : Memory
  pub step : Step
  pub done : Done choices memory batch step
  pub passes : lent most_later (lent_of tree bookmarks) ≡ gives memory
  pub room : ltb (length tree) (tree_bytes (length step.memory.tree.kinds) (length step.memory.tree.text)) ≡ false
  pub left : LeftBy done.batch.trees done.world source e marks rows n
  pub told : first_rows text n rows ≡ rows_of done.world.trees
  pub some_rows : 1 ≤ n
  pub few_bytes : bytes (first_rows text n rows) < 2 ^ 32

module _ {source : List ℕ} {e : ℕ} {marks rows : List ℕ} {n : ℕ} {text tree bookmarks : List ℕ} (v : Leaving source e marks rows n text tree bookmarks) where
  pub leaving_fits : tree_bytes (length (new_in text n rows).kinds) (length (new_in text n rows).text) ≤ length tree
  leaving_fits = ltb-false (length tree) (tree_bytes (length (new_in text n rows).kinds) (length (new_in text n rows).text)) (room_left v.done text n rows v.told (length tree) refl ∙ v.room)

  pub leaving_moves : Moving source e marks rows n bookmarks (get_or bookmarks 0 0)
  leaving_moves = ready_moving v.done v.left (lent_of tree bookmarks) v.passes

  pub leaving_slots : 1 + 65 * get_or bookmarks 0 0 ≤ length bookmarks
  leaving_slots = ready_room v.done v.left (lent_of tree bookmarks) v.passes

  -- BOTH SLICES HOLD WHAT THE DEFINITION LEAVES
  pub leaving_left : {t b : List ℕ} → t ≡ over (tree_out (new_in text n rows)) tree → ((x : Moving source e marks rows n bookmarks (get_or bookmarks 0 0)) → b ≡ bookmarks_after x.run.moves bookmarks) → lent_of t b ≡ left_in (lent_of tree bookmarks) v.step.memory
  leaving_left {t} {b} p q =
      let x = tree_left v.done text n rows v.told (lent_of tree bookmarks) p in
      let y = ready_left v.done v.left (lent_of tree bookmarks) v.passes q in
      λ i. record { tree = x i; bookmarks = y i }
