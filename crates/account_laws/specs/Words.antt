-- What is said of the account of each change (document 02, Note 5): the owner of a change in closed form, and a pair that overlaps.
-- Assumes nothing.
use Rattle.std.specs.Prelude.{◌≡◌, Bool, true, cond, not, ◌&&◌, ◌||◌, List, ℕ, zero, suc, ◌≤◌, ◌<◌, length, get_or, leb, ltb, eqb}
use Rattle.std.proofs.Math.Option.{Option, none, some}
use Rattle.orders.specs.Lists.{All}
use Rattle.definition.specs.Elements.{Table, tree}
use Rattle.definition.specs.Recording.{Change, delete}
use Rattle.definition.specs.Planning.{target, rank, from, to, parent_depth, Fate, own, dependent, discarded, is_discarded, adds_region, node_by_node, fates}

-- ── Numbers below another ───────────────────────────────────────────────────────────────────────────────────

-- the last number below n that passes the test
unfoldable pub last_below : ℕ → (ℕ → Bool) → Option ℕ
last_below zero p = none
last_below (suc n) p = let before = last_below n p in cond (p n) (some n) before

-- every number below n passes the test
unfoldable pub every_below : ℕ → (ℕ → Bool) → Bool
every_below zero p = true
every_below (suc n) p = let before = every_below n p in p n && before

-- ── Changes in sorted order, by their places ────────────────────────────────────────────────────────────────

-- the change at place i
abbrev pub at : List Change → ℕ → Change
at cs i = get_or cs i (delete 0)

-- the change that a fate names
unfoldable pub named : Fate → Option ℕ
named own = none
named (dependent k) = some k
named (discarded k) = some k

module _ (T : Table) where
  -- the tree of a change
  abbrev pub tree_of : Change → ℕ
  tree_of c = tree T (target c)

  -- all changes are of trees 0 to 15, as those of every accepted batch are (`sorted_in_trees`)
  abbrev pub InTrees : List Change → Type 0
  InTrees cs = All (λ c. tree_of c < 16) cs

  -- the range of c contains that of d, "ends included"
  abbrev pub covers : Change → Change → Bool
  covers c d = leb (from T c) (from T d) && leb (to T d) (to T c)

  -- the same, as a fact
  abbrev pub Covers : Change → Change → Type 0
  Covers c d = (from T c ≤ from T d) × (to T d ≤ to T c)

  module _ (cs : List Change) where
    -- what becomes of the change at place i
    abbrev pub fate_at : ℕ → Fate
    fate_at i = get_or (fates T cs) i own

    -- ── The owner ───────────────────────────────────────────────────────────────────────────────────────────

    -- change k comes before change i, adds a region, is of the same tree, and its range contains that of change i
    pub record Contains (k i : ℕ) : Type 0 where
      pub before : k < i
      pub adds : adds_region T (at cs k) ≡ true
      pub tree : tree_of (at cs k) ≡ tree_of (at cs i)
      pub covers : Covers (at cs k) (at cs i)

    -- THE STACK RULE: and it contains the range of every change of that tree between them
    pub record Owns (k i : ℕ) : Type 0 where
      pub contains : Contains k i
      pub between : (j : ℕ) → k < j → j < i → tree_of (at cs j) ≡ tree_of (at cs i) → Covers (at cs k) (at cs j)

    -- it is the last such change
    pub record Owner (k i : ℕ) : Type 0 where
      pub owns : Owns k i
      pub last : (m : ℕ) → k < m → ¬ Owns m i

    -- change j is not one of tree t after change k, or the range of change k contains its own
    unfoldable pub spares : ℕ → ℕ → ℕ → Bool
    spares t k j = not (ltb k j && eqb (tree_of (at cs j)) t) || covers (at cs k) (at cs j)

    -- `Owns` as a test, for k below i
    unfoldable pub owns : ℕ → ℕ → Bool
    owns i k =
        adds_region T (at cs k) && (eqb (tree_of (at cs k)) (tree_of (at cs i)) && (covers (at cs k) (at cs i) && every_below i (spares (tree_of (at cs i)) k)))

    -- the owner of change i: the last change before it that owns it
    unfoldable pub owner : ℕ → Option ℕ
    owner i = last_below i (owns i)

    -- what becomes of a change by its owner, f being what becomes of each: "Only an undiscarded call 2 of a node by a node makes inner changes dependent;
    -- all other regions discard them"
    unfoldable pub fate_under : (ℕ → Fate) → Option ℕ → Fate
    fate_under f none = own
    fate_under f (some k) = cond (not (is_discarded (f k)) && node_by_node T (at cs k)) (dependent k) (discarded k)

    -- ── The overlap ─────────────────────────────────────────────────────────────────────────────────────────

    -- change j is a replacement or a run, "of the same tree and depth of target parent" as change k
    pub record Peers (j k : ℕ) : Type 0 where
      pub removes : ¬ (rank (at cs j) ≡ 0)
      pub tree : tree_of (at cs j) ≡ tree_of (at cs k)
      pub depth : parent_depth T (at cs j) ≡ parent_depth T (at cs k)

    -- 8: "among replacements and runs of the same tree and depth of target parent, the earlier end exceeds the next start"
    pub record Overlap (j k : ℕ) : Type 0 where
      pub earlier : j < k
      pub within : k < length cs
      pub removes : ¬ (rank (at cs k) ≡ 0)
      pub peers : Peers j k
      pub next : (m : ℕ) → j < m → m < k → ¬ Peers m k
      pub exceeds : from T (at cs k) < to T (at cs j)
