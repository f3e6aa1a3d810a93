-- A recorded change as a row of fourteen words, with what planning needs beside it.
-- Assumes nothing.
use Rattle.std.specs.Prelude.{cond, List, [], ◌∷◌, ℕ, zero, suc, length, get_or, drop}
use Rattle.definition.specs.Elements.{Table, tree}
use Rattle.definition.specs.Recording.{first_child, after, Change, insert, replace, delete, replace_with_many, replace_all}
use Rattle.definition.specs.Planning.{Fate, own, dependent, discarded, target, rank, from, to, parent_depth, adds_region, node_by_node}
use Rattle.definition.specs.Running.{news}

pub record ChangeRow : Type 0 where
  -- the paper's number of the call
  pub operation : ℕ
  pub target : ℕ
  -- the run's end; else the target
  pub end : ℕ
  -- where the elements that go in stand in the batch's list, and how many they are
  pub list : ℕ
  pub count : ℕ
  -- the tree of the target, the range, the depth of the target parent
  pub tree : ℕ
  pub from : ℕ
  pub to : ℕ
  pub depth : ℕ
  -- 0 insert, 1 run, 2 replace
  pub rank : ℕ
  -- 0 adds no region, 1 adds one that discards, 2 is a call 2 of a node by a node
  pub region : ℕ
  -- 0 own, 1 dependent, 2 discarded; of or under which change
  pub fate : ℕ
  pub owner : ℕ
  -- "the number of the rule that queued it" (document 02, Note 8)
  pub rule : ℕ

-- a row's words
unfoldable pub row_words : ChangeRow → List ℕ
row_words r = r.operation ∷ r.target ∷ r.end ∷ r.list ∷ r.count ∷ r.tree ∷ r.from ∷ r.to ∷ r.depth ∷ r.rank ∷ r.region ∷ r.fate ∷ r.owner ∷ r.rule ∷ []

-- the row at the front of some words
unfoldable pub row_of : List ℕ → ChangeRow
row_of l = record {
  operation = get_or l 0 0;
  target = get_or l 1 0;
  end = get_or l 2 0;
  list = get_or l 3 0;
  count = get_or l 4 0;
  tree = get_or l 5 0;
  from = get_or l 6 0;
  to = get_or l 7 0;
  depth = get_or l 8 0;
  rank = get_or l 9 0;
  region = get_or l 10 0;
  fate = get_or l 11 0;
  owner = get_or l 12 0;
  rule = get_or l 13 0;
}

-- the n rows at the front of some words
unfoldable pub rows_of : ℕ → List ℕ → List ChangeRow
rows_of zero l = []
rows_of (suc n) l = row_of l ∷ rows_of n (drop 14 l)

-- the paper's number of a change
unfoldable pub operation : Change → ℕ
operation (insert first_child x l) = 0
operation (insert after x l) = 1
operation (replace x y) = 2
operation (delete x) = 3
operation (replace_with_many x l) = 4
operation (replace_all x y l) = 5

-- the run's end; else the target
unfoldable pub end_of : Change → ℕ
end_of (insert p x l) = x
end_of (replace x y) = x
end_of (delete x) = x
end_of (replace_with_many x l) = x
end_of (replace_all x y l) = y

module _ (T : Table) where
  -- the region word of a change
  unfoldable pub region_of : Change → ℕ
  region_of c = cond (node_by_node T c) 2 (cond (adds_region T c) 1 0)

  -- the row of a change by the rule n, whose elements stand at `at` in the batch's list, before its fate is known
  unfoldable pub change_row : ℕ → ℕ → Change → ChangeRow
  change_row at n c = record {
    operation = operation c;
    target = target c;
    end = end_of c;
    list = at;
    count = length (news c);
    tree = tree T (target c);
    from = from T c;
    to = to T c;
    depth = parent_depth T c;
    rank = rank c;
    region = region_of c;
    fate = 0;
    owner = 0;
    rule = n;
  }

-- the fate's number, and the change that it names
unfoldable pub fate_of : Fate → ℕ
fate_of own = 0
fate_of (dependent k) = 1
fate_of (discarded k) = 2

unfoldable pub owner_of : Fate → ℕ
owner_of own = 0
owner_of (dependent k) = k
owner_of (discarded k) = k
