-- How a batch moves the bookmarks of a memory; refusal 22 (document 02, Note 14).
-- Assumes nothing.
use Rattle.std.specs.Prelude.{not, ℕ}
use mathlib.Core.List.{List, ◌∷◌, tail}
use Rattle.std.proofs.Math.Option.{Option, map}
use Rattle.orders.specs.Lists.{pick}
use Rattle.orders.specs.Tree.{Path, Run}
use Rattle.definition.specs.Basics.{Answer, gives, ◌>>=◌, refuse}
use Rattle.definition.specs.Choices.{Choices}
use Rattle.definition.specs.Refusals.{Accepted, accepted}
use Rattle.definition.specs.Finishing.{Result, result}
use Rattle.definition.specs.Answers.{Plan, plan, performed, at_first, ran}
use Rattle.definition_account.specs.Moved.{moves_of, in_a_row}
use Rattle.check_laws.specs.Check.{Flat}
use Rattle.check_laws.specs.Claimed.{old_tree, flat_of}
use Rattle.series_laws.specs.Memory.{Bookmark, Memory, same_tree}

-- ── How bookmarks move ──────────────────────────────────────────────────────────────────────────────────────

-- what a batch does to the paths of tree 0: "all its splices and root replacements in a row", each at its place of that moment, and how many come in
unfoldable pub moves : Accepted → Plan → List (Run × ℕ)
moves a p = moves_of a.table (at_first a p) (performed a p)

-- a bookmark's path after such moves, "by the path rule"; none once it is dropped. (A run's path begins with the number of its tree, a bookmark's does not)
unfoldable pub moved : List (Run × ℕ) → Path → Option Path
moved ms p = map tail (in_a_row ms (0 ∷ p))

-- one bookmark keeps its number
unfoldable pub kept : List (Run × ℕ) → Bookmark → Option Bookmark
kept ms b = map (λ p. (b.0, p)) (moved ms b.1)

-- "survivors keep their order"
unfoldable pub survivors : List (Run × ℕ) → List Bookmark → List Bookmark
survivors ms bs = pick (kept ms) bs

-- ── A batch ─────────────────────────────────────────────────────────────────────────────────────────────────

-- the new tree of a result
unfoldable pub tree_of : Result → Flat
tree_of r = record { kinds = r.kinds; measures = r.measures; text = r.text }

-- what a batch on this memory comes to
pub record Step : Type 0 where
  -- what it does to the paths of tree 0
  pub moves : List (Run × ℕ)
  pub result : Result
  -- the memory as it is left
  pub memory : Memory

-- A BATCH ON A MEMORY that is held to its lines: 2 to 7 with 16, then 22 ("tree 0 is not the tree left before, checked after 7"), then 8 to 12. "Each accepted batch
-- moves the bookmarks by the path rule"
unfoldable pub step : Choices → Memory → List ℕ → Answer Step
step h m bytes = do
  a ← accepted bytes
  _ ← refuse 22 (not (same_tree (flat_of (old_tree a.trees)) m.tree))
  p ← plan h a
  w ← ran a p
  let r = result p.changes p.climbs w
  gives (record { moves = moves a p; result = r; memory = record { tree = tree_of r; bookmarks = survivors (moves a p) m.bookmarks } })
