-- What an accepted batch guarantees of the words of the element table and of the batch's rows (View.antt says what each word is).
-- Assumes nothing.
use Rattle.std.proofs.Props.{props}
use Rattle.std.specs.Prelude.{◌&&◌, List, ◌≡◌, ℕ, suc, ◌+◌, ◌*◌, ◌≤◌, ◌<◌, leb, ltb, length, get_or}
use Rattle.orders.specs.Lists.{All}
use Rattle.orders.specs.ListLaws.{all_prop}
use Rattle.definition.specs.Elements.{parent, child}
use Rattle.definition.specs.EdgeRule.{at_or_below}
use Rattle.read_element_table.specs.View.{row_at, view}

-- The table of n elements. Word 8 e + 1 is the parent's number + 1 (0 for a root), 8 e + 2 the child number, 8 e + 3 the depth, 8 e + 7 the tree.
pub record Lines (n : ℕ) (table : List ℕ) : Type 0 where
  pub few : n ≤ 2048
  pub long : 8 * n ≤ length table
  -- a parent comes before its child
  pub before : (e : ℕ) → e < n → get_or table (8 * e + 1) 0 ≤ e
  -- a root has depth 1, and its child number is its tree's number
  pub root : (e : ℕ) → e < n → get_or table (8 * e + 1) 0 ≡ 0 → (get_or table (8 * e + 3) 0 ≡ 1) × (get_or table (8 * e + 7) 0 ≡ get_or table (8 * e + 2) 0)
  -- a child is one deeper than its parent, in the same tree
  pub below : (e p : ℕ) → e < n → get_or table (8 * e + 1) 0 ≡ suc p → (get_or table (8 * e + 3) 0 ≡ suc (get_or table (8 * p + 3) 0)) × (get_or table (8 * e + 7) 0 ≡ get_or table (8 * p + 7) 0)
  pub shallow : (e : ℕ) → e < n → get_or table (8 * e + 3) 0 ≤ 64
  -- no two children of one parent, and no two roots, have the same number
  pub apart : (a b : ℕ) → a < n → b < n → get_or table (8 * a + 1) 0 ≡ get_or table (8 * b + 1) 0 → get_or table (8 * a + 2) 0 ≡ get_or table (8 * b + 2) 0 → a ≡ b

-- the table with the batch's rows
pub record Wellformed (n : ℕ) (table source : List ℕ) : Type 0 where
  pub lines : Lines n table
  pub long : 3 * n + 3 ≤ length source
  -- children are elements
  pub children : (e : ℕ) → e < n → All (λ c. c < n) (row_at table source e).children
  -- word 8 y + 6 is the element after the subtree of y: what is at or below the siblings x to y stands from x on, before it
  pub interval : (x y e : ℕ) → x < n → y < n → e < n → parent (view n table source) x ≡ parent (view n table source) y → child (view n table source) x ≤ child (view n table source) y
      → at_or_below (view n table source) x y e ≡ (leb x e && ltb e (get_or table (8 * y + 6) 0))
  -- it is an element or the end
  pub ends : (e : ℕ) → e < n → get_or table (8 * e + 6) 0 ≤ n

-- ── There is at most one proof of it, so that it can be a field ───────────────────────────────────────────

pub wellformed_prop : (n : ℕ) (table source : List ℕ) → IsProp (Wellformed n table source)
wellformed_prop n table source = hlevel (all_prop, props)
