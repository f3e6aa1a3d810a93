-- What each answer means: document 01's number for a refusal, and the values for the rest.
-- Assumes nothing.
use Rattle.std.specs.Prelude.{List, ◌++◌, ◌≡◌, ℕ, ◌≤◌, ◌<◌, length, Option, Some, None, Result, Ok, Err}
use Rattle.std.proofs.Math.Option.{Option as Maybe}
use Rattle.std.proofs.Math.ListN.{get_elem?}
use Rattle.orders.specs.Lists.{meant}
use Rattle.orders.specs.Tree.{Path}
use Rattle.definition.specs.Basics.{Answer, refused, gives, ◌>>=◌, or_refuse}
use Rattle.definition.specs.Elements.{Table, row, descend}
use Rattle.definition.specs.Rewriting.{trail, land, moved}
use Rattle.read_element_table.specs.View.{view}
use Rattle.refusals.specs.declared.Refusal.{Refusal}
use Rattle.refusals.specs.Numbers.{number}
use Rattle.plan_upmap.specs.declared.Moved.{Moved}
use Rattle.plan_mapping.specs.Mapped.{mapped_by}

-- ── The way down ────────────────────────────────────────────────────────────────────────────────────────────

-- what is found is one of n elements
abbrev pub Within : ℕ → Option ℕ → Type 0
Within n (Some e) = e < n
Within n None = Unit

-- an element that is found is one of n
pub within_at : (n : ℕ) (o : Option ℕ) (e : ℕ) → Within n o → o ≡ Some e → e < n
within_at n o e h q = rw q at h

-- child number i of element e
pub record FoundChild (n : ℕ) (table source : List ℕ) (e i : ℕ) (answer : Option ℕ) : Type 0 where
  pub child : meant answer ≡ get_elem? (row (view n table source) e).children i
  pub within : Within n answer

-- the element to which a path leads from r
pub record Descended (n : ℕ) (table source : List ℕ) (r : ℕ) (path : Path) (answer : Option ℕ) : Type 0 where
  pub element : meant answer ≡ descend (view n table source) r path
  pub within : Within n answer

-- where e lands by a path from r; missing is refusal 9
pub record Landed (n : ℕ) (table source : List ℕ) (e r : ℕ) (path : Path) (answer : Option ℕ) : Type 0 where
  pub landing : (mapped : ℕ → Maybe ℕ) → or_refuse 9 (meant answer) ≡ land (view n table source) mapped e r path
  pub within : Within n answer

-- ── A move ──────────────────────────────────────────────────────────────────────────────────────────────────

-- where the element goes, and the steps
unfoldable pub moved_by : Result Moved Refusal → Answer (ℕ × ℕ)
moved_by (Ok m) = gives (m.element, m.steps)
moved_by (Err r) = refused (number r)

-- where the element goes is one of n, and the steps are at most n
abbrev pub MovedWithin : ℕ → Result Moved Refusal → Type 0
MovedWithin n (Ok m) = (m.element < n) × (m.steps ≤ n)
MovedWithin n (Err r) = Unit

-- where e goes that stands below x by the path p: what `moved` does once the place is known
unfoldable pub moved_from : Table → (ℕ → Maybe ℕ) → ℕ → ℕ → ℕ → Path → Answer (ℕ × ℕ)
moved_from T mapped x r e p = do
  q ← trail T mapped x r
  to ← land T mapped e r (q ++ p)
  gives (to, length q)

-- the rest of a move from x to r, for an element below x by a path
pub record MovedFrom (n : ℕ) (table source map : List ℕ) (x r e : ℕ) (path : Path) (answer : Result Moved Refusal) : Type 0 where
  pub move : moved_by answer ≡ moved_from (view n table source) (mapped_by map) x r e path
  pub within : MovedWithin n answer

-- where e goes when x is replaced by r
pub record MovedTo (n : ℕ) (table source map : List ℕ) (x r e : ℕ) (answer : Result Moved Refusal) : Type 0 where
  pub move : moved_by answer ≡ moved (view n table source) (mapped_by map) x r e
  pub within : MovedWithin n answer
