-- NOTE 13 (document 02): a full account of the new tree, said of what a result holds. It computes: `sheet` counts, `full?` is the test.
-- Assumes nothing.
use Rattle.std.specs.Prelude.{Bool, false, not, ◌&&◌, ◌||◌, ℕ, ◌<◌, leb, ltb, eqb, length, drop}
use mathlib.Core.List.{List, [], ◌∷◌, map, zip}
use Rattle.std.proofs.Math.Option.{Option, none, some, get_or, bind}
use Rattle.orders.specs.Lists.{any}
use Rattle.orders.specs.Tree.{Tree, Path, strip}
use Rattle.orders.specs.Splices.{Splice}
use Rattle.orders.proofs.Check.{each}
use Rattle.definition.specs.Basics.{Answer, gives, ◌>>=◌, is_some, numbered}
use Rattle.definition.specs.Choices.{Choices}
use Rattle.definition.specs.Elements.{Table, table, row, place_below, pieces, grow}
use Rattle.definition.specs.Refusals.{Accepted, accepted}
use Rattle.definition.specs.Running.{World}
use Rattle.definition.specs.Finishing.{Result, result}
use Rattle.definition.specs.Answers.{Plan, plan, performed, ran}
use Rattle.definition.specs.Performed.{splices}
use Rattle.definition_account.specs.Words.{count, went_to, old_elements, old_at, OneOf, NowhereIfDeleted, keeps_root, no_dependent_in0}

-- ── Read in a result ────────────────────────────────────────────────────────────────────────────────────────

-- the trees that its kind words, measures and text spell, as those of a batch do (a list of one)
unfoldable pub trees_in : Result → List (Tree ℕ)
trees_in R = get_or (bind (pieces (zip R.kinds R.measures) R.text) grow) []

-- what is known of each element of its tree
unfoldable pub table_in : Result → Table
table_in R = table 0 0 (trees_in R)

-- how many changed elements the element n "lies at or below"
unfoldable pub changed_above : Result → ℕ → ℕ
changed_above R n = count (λ c. is_some (place_below (table_in R) c n)) R.changed

-- ── The statement ───────────────────────────────────────────────────────────────────────────────────────────

-- WHAT NOTE 13 SAYS of an accepted batch, its plan, what its steps leave, and a result
pub record Accounted (a : Accepted) (p : Plan) (w : World) (R : Result) : Type 0 where
  -- "every element of the new tree either lies at or below exactly one changed element, or is where exactly one old element went, and never both"
  pub each : (n : ℕ) → n < length R.kinds → OneOf (changed_above R n) (old_at a.table w n)
  -- "old elements that go nowhere are exactly those at or below a child deleted in tree 0"
  pub nowhere : NowhereIfDeleted a.table (splices a p) w

-- ── Counted ─────────────────────────────────────────────────────────────────────────────────────────────────

-- a path is at or below a child that s deletes, by what is left of it behind the parent of s
unfoldable pub in_run? : Splice ℕ → Option Path → Bool
in_run? s none = false
in_run? s (some []) = false
in_run? s (some (i ∷ r)) = leb s.from i && ltb i s.to

-- the path e in tree 0 is "at or below a child deleted in tree 0"
unfoldable pub deleted? : List (Splice ℕ) → Path → Bool
deleted? S e = any (λ s. in_run? s (strip s.parent e)) S

-- the account of a batch, counted
pub record Sheet : Type 0 where
  -- it "does not replace the root"
  pub root : Bool
  -- it "has no dependent change ending in tree 0"
  pub aside : Bool
  -- of each element of the new tree: how many changed elements it lies at or below, and how many old elements went there
  pub elements : List (ℕ × ℕ)
  -- of each old element: whether it goes nowhere, and whether it is at or below a child deleted in tree 0
  pub olds : List (Bool × Bool)

unfoldable pub sheet_of : Accepted → Plan → World → Result → Sheet
sheet_of a p w R = record {
  root = keeps_root a.table (performed a p);
  aside = no_dependent_in0 a.table (performed a p);
  elements = map (λ n. (changed_above R n, old_at a.table w n)) (map (λ m. m.0) (numbered 0 R.kinds));
  olds = map (λ x. (not (is_some (went_to w x)), deleted? (splices a p) (drop 1 (row a.table x).path))) (old_elements a.table);
}

-- of a batch that is not refused, by these choices
unfoldable pub sheet : Choices → List ℕ → Answer Sheet
sheet h bytes = do
  a ← accepted bytes
  p ← plan h a
  w ← ran a p
  gives (sheet_of a p w (result p.changes p.climbs w))

-- "It holds for an accepted batch that does not replace the root and has no dependent change ending in tree 0."
unfoldable pub condition? : Sheet → Bool
condition? s = s.root && s.aside

-- one changed element and no old one, or one old element and no changed one
unfoldable pub one_of? : ℕ × ℕ → Bool
one_of? m = (eqb m.0 1 && eqb m.1 0) || (eqb m.0 0 && eqb m.1 1)

-- both or neither
unfoldable pub alike? : Bool × Bool → Bool
alike? m = (m.0 && m.1) || (not m.0 && not m.1)

-- THE TEST
unfoldable pub full? : Sheet → Bool
full? s = each one_of? s.elements && each alike? s.olds
