-- The code's changes: the paper's numbers of each case, and the definition's change that each is.
-- Assumes nothing.
use Rattle.std.specs.Prelude.{cond, ℕ, ◌+◌, ◌-◌, ◌^◌, ◌<◌, eqb}
use mathlib.Core.List.{List, head_d}
use Rattle.definition.specs.Recording as def
use Rattle.definition.specs.Recording.{first_child, after, insert, replace, delete, replace_with_many, replace_all}
use Rattle.record_changes.specs.ChangeRow.{ChangeRow}
use Rattle.read_calls.specs.declared.Operation.{Operation}
use Rattle.read_calls.specs.declared.Operation.TheVariants.{FirstChild as InsertFirst, After as InsertAfter, Replace as ReplaceOne, Delete as DeleteOne, ReplaceWithMany as ReplaceMany, ReplaceAll as ReplaceRun}
use Rattle.read_calls.specs.Operations.{operation_number}
use Rattle.record_changes.specs.declared.Rank.{Rank}
use Rattle.record_changes.specs.declared.Rank.TheVariants.{Insert as InsertRank, Run as RunRank, Replace as ReplaceRank}
use Rattle.record_changes.specs.declared.Region.{Region}
use Rattle.record_changes.specs.declared.Region.TheVariants.{None as NoRegion, Discarding, NodeByNode}
use Rattle.record_changes.specs.declared.Place.{Place}
use Rattle.record_changes.specs.declared.Place.TheVariants.{FirstChild, After}
use Rattle.record_changes.specs.declared.Fate.{Fate}
use Rattle.record_changes.specs.declared.Fate.TheVariants.{Own, Dependent, Discarded}
use Rattle.record_changes.specs.declared.Listed.{Listed}
use Rattle.record_changes.specs.declared.Change.{Change}
use Rattle.record_changes.specs.declared.Change.TheVariants.{Insert, Replace, Delete, ReplaceWithMany, ReplaceAll}
use Rattle.record_changes.specs.declared.Numbers.{Numbers}
use Rattle.record_changes.specs.declared.Spot.{Spot}

-- "0: insert as first child of the target. 1: insert after the target."
abbrev pub place_operation : Place → Operation
place_operation FirstChild = InsertFirst
place_operation After = InsertAfter

-- a rank's number in a row
abbrev pub rank_number : Rank → ℕ
rank_number InsertRank = 0
rank_number RunRank = 1
rank_number ReplaceRank = 2

-- a region's number in a row
abbrev pub region_number : Region → ℕ
region_number NoRegion = 0
region_number Discarding = 1
region_number NodeByNode = 2

-- a fate's number in a row
abbrev pub fate_number : Fate → ℕ
fate_number Own = 0
fate_number Dependent = 1
fate_number Discarded = 2

-- the operation of each case, target, run's end (else the target), where the elements that go in stand and how many they are, and rank
abbrev pub numbers_of : Change → Numbers
numbers_of (Insert p x l) = record { operation = operation_number (place_operation p); target = x; end = x; list = l.at; count = l.count; rank = rank_number InsertRank }
numbers_of (Replace x at) = record { operation = operation_number ReplaceOne; target = x; end = x; list = at; count = 1; rank = rank_number ReplaceRank }
numbers_of (Delete x at) = record { operation = operation_number DeleteOne; target = x; end = x; list = at; count = 0; rank = rank_number ReplaceRank }
numbers_of (ReplaceWithMany x l) = record { operation = operation_number ReplaceMany; target = x; end = x; list = l.at; count = l.count; rank = rank_number ReplaceRank }
numbers_of (ReplaceAll x y l) = record { operation = operation_number ReplaceRun; target = x; end = y; list = l.at; count = l.count; rank = rank_number RunRank }

-- each number fits a word
pub record NumbersFit (m : Numbers) : Type 0 where
  pub operation : m.operation < 2 ^ 32
  pub target : m.target < 2 ^ 32
  pub end : m.end < 2 ^ 32
  pub list : m.list < 2 ^ 32
  pub count : m.count < 2 ^ 32
  pub rank : m.rank < 2 ^ 32

-- the row of a change by its numbers, what planning needs and its rule number, before its fate is known
unfoldable pub row_with : Numbers → Spot → ℕ → ChangeRow
row_with m s n = record {
  operation = m.operation;
  target = m.target;
  end = m.end;
  list = m.list;
  count = m.count;
  tree = s.tree;
  from = s.from;
  to = s.to;
  depth = s.depth;
  rank = m.rank;
  region = s.region;
  fate = 0;
  owner = 0;
  rule = n;
}

-- ── The definition's change ─────────────────────────────────────────────────────────────────────────────────

abbrev pub place_of : Place → def.Place
place_of FirstChild = first_child
place_of After = after

-- the change that puts in the elements l
abbrev pub as_change : List ℕ → Change → def.Change
as_change l (Insert p x s) = insert (place_of p) x l
as_change l (Replace x at) = replace x (head_d l 0)
as_change l (Delete x at) = delete x
as_change l (ReplaceWithMany x s) = replace_with_many x l
as_change l (ReplaceAll x y s) = replace_all x y l

-- ── The change that a call asks for ─────────────────────────────────────────────────────────────────────────

-- "A call 5 with equal ends is recorded as 4."
unfoldable pub run_asked : ℕ → ℕ → Listed → Change
run_asked x y l = cond (eqb x y) (ReplaceWithMany x l) (ReplaceAll x y l)

-- a call of the operation op and target x, whose k listed elements start at `at`, y the first of them
unfoldable pub change_asked : ℕ → ℕ → ℕ → ℕ → ℕ → Change
change_asked op x at k y =
    cond (eqb op 0) (Insert FirstChild x (record { at = at; count = k }))
    (cond (eqb op 1) (Insert After x (record { at = at; count = k }))
    (cond (eqb op 2) (Replace x at)
    (cond (eqb op 3) (Delete x at)
    (cond (eqb op 4) (ReplaceWithMany x (record { at = at; count = k }))
    (run_asked x y (record { at = at + 1; count = k - 1 }))))))

-- ── The change that a row holds ─────────────────────────────────────────────────────────────────────────────

-- by its numbers: the operation op, the target x, the run's end y, the elements that go in
unfoldable pub change_by : ℕ → ℕ → ℕ → Listed → Change
change_by op x y l =
    cond (eqb op 0) (Insert FirstChild x l)
    (cond (eqb op 1) (Insert After x l)
    (cond (eqb op 2) (Replace x l.at)
    (cond (eqb op 3) (Delete x l.at)
    (cond (eqb op 4) (ReplaceWithMany x l)
    (ReplaceAll x y l)))))
