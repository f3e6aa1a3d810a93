-- What each answer means: document 01's number for a refusal, and the values for the rest.
-- Assumes nothing.
use Rattle.std.specs.Prelude.{List, ◌≡◌, ℕ, ◌≤◌, length, Option, Some, None, Result, Ok, Err}
use Rattle.std.proofs.Math.Option.{Option as Maybe, none, some}
use Rattle.orders.specs.Tree.{Path}
use Rattle.definition.specs.Basics.{Answer, refused, gives}
use Rattle.definition.specs.Elements.{place_below}
use Rattle.definition.specs.Rewriting.{trail}
use Rattle.read_element_table.specs.View.{view}
use Rattle.refusals.specs.declared.Refusal.{Refusal}
use Rattle.refusals.specs.Numbers.{number}
use Rattle.plan_mapping.specs.Mapped.{mapped_by}
use Rattle.plan_mapping.specs.Backward.{backward}

-- ── Where an element stands below another ───────────────────────────────────────────────────────────────────

-- a place whose child numbers were written to an array, the last child number at its front, and are read backward
unfoldable pub below : Option ℕ → List ℕ → Maybe Path
below (Some k) numbers = some (backward k numbers)
below None numbers = none

-- how many child numbers
unfoldable pub depth_of : Option ℕ → ℕ
depth_of (Some k) = k
depth_of None = 0

-- where e stands below x
pub record Placed (n : ℕ) (table : List ℕ) (x e : ℕ) (answer : Option ℕ) (numbers : List ℕ) : Type 0 where
  pub place : (source : List ℕ) → below answer numbers ≡ place_below (view n table source) x e
  pub room : depth_of answer ≤ length numbers
  pub long : length numbers ≡ 64

-- the numbers stand in the array
pub place_room : {n : ℕ} {table : List ℕ} {x e : ℕ} {answer : Option ℕ} {numbers : List ℕ} {k : ℕ} → Placed n table x e answer numbers → answer ≡ Some k → k ≤ length numbers
unfolding depth_of
place_room P q = rw q at P.room

-- ── A climb ─────────────────────────────────────────────────────────────────────────────────────────────────

-- a climb whose child numbers were written to an array, the first at its front, and are read backward
unfoldable pub climbed : Result ℕ Refusal → List ℕ → Answer Path
climbed (Ok k) numbers = gives (backward k numbers)
climbed (Err r) numbers = refused (number r)

-- the steps of a climb
unfoldable pub steps_of : Result ℕ Refusal → ℕ
steps_of (Ok k) = k
steps_of (Err r) = 0

-- the climb from x to r, of at most n steps
pub record Climbed (n : ℕ) (table map : List ℕ) (x r : ℕ) (answer : Result ℕ Refusal) (numbers : List ℕ) : Type 0 where
  pub trail : (source : List ℕ) → climbed answer numbers ≡ trail (view n table source) (mapped_by map) x r
  pub few : steps_of answer ≤ n
  pub room : steps_of answer ≤ length numbers
  pub long : length numbers ≡ 2049

-- the trail has at most n numbers, and they stand in the array
pub trail_room : {n : ℕ} {table map : List ℕ} {x r : ℕ} {answer : Result ℕ Refusal} {numbers : List ℕ} {k : ℕ} → Climbed n table map x r answer numbers → answer ≡ Ok k → (k ≤ n) × (k ≤ length numbers)
unfolding steps_of
trail_room C q = (rw q at C.few, rw q at C.room)
