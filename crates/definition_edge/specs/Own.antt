-- A change that rule 1 calls own is taken by no region, and stays so: it is not rewritten, and performed as it was recorded.
-- Assumes nothing.
use Rattle.std.specs.Prelude.{◌≡◌, false}
use mathlib.Core.List.{List, Memᴰ}
use Prim.Native.Nat.{ℕ}
use Rattle.orders.specs.Lists.{All}
use Rattle.definition.specs.Basics.{Answer, numbered}
use Rattle.definition.specs.Elements.{Table}
use Rattle.definition.specs.Refusals.{Accepted}
use Rattle.definition.specs.Recording.{Recorded, Change}
use Rattle.definition.specs.Planning.{Fate, own, Planned, changes_of, with_fates}
use Rattle.definition.specs.EdgeRule.{takes, fates1}
use Rattle.definition.specs.Answers.{Plan, rewrite_changes}

-- no region of the changes takes c, which is one of them
pub record Free (T : Table) (cs : List Change) (c : Change) : Type 0 where
  pub place : ℕ
  pub one : Memᴰ (place, c) (numbered 0 cs)
  pub free : All (λ r. takes T r (place, c) ≡ false) (numbered 0 cs)

-- if it has no owner, no region takes it
abbrev pub OwnFree : Table → List Change → Planned → Type 0
OwnFree T cs q = q.fate ≡ own → Free T cs q.change

-- the plan of these changes with these fates
abbrev pub planned_by : Accepted → List Recorded → List Fate → Answer Plan
planned_by a rs fs = rewrite_changes a (with_fates rs fs)

-- the plan of these changes by edge rule 1
abbrev pub planned1 : Accepted → List Recorded → Answer Plan
planned1 a rs = planned_by a rs (fates1 a.table (changes_of rs))

-- a change without an owner
abbrev pub alone : Recorded → Planned
alone c = record { change = c.change; fate = own; rule = c.rule }
