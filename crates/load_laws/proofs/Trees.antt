-- What the trees of every load tell, by computation.
-- Assumes nothing.
use Rattle.std.specs.Prelude.{◌≡◌, refl, Bool, true, false, not, ◌&&◌, List, [], ℕ, zero, suc, ◌+◌, ◌<◌, length, eqb}
use Rattle.std.proofs.Common.{sym, ◌∙◌, arith, add-zero, eqb-true}
use mathlib.Core.List as List
use Rattle.std.proofs.Math.Option as Option
use Rattle.std.proofs.Math.Option.{Option, none, some, get_or}
use Rattle.orders.specs.Tree as Tree
use Rattle.orders.specs.Lists as Lists
use Rattle.orders.specs.Tree.{Tree}
use Rattle.orders.specs.ListLaws.{both_true}
use Rattle.definition.specs.Basics.{is_some}
use Rattle.definition.specs.Batch.{Batch}
use Rattle.definition.specs.Elements as Elements
use Rattle.definition.specs.Elements.{Table, spelled, table, root?, node?, parent, child}
use Rattle.definition.specs.Refusals.{same_parent}
use Rattle.definition_laws.specs.Right.{same_parent_lem}
use Rattle.write_laws.specs.RoundTrip.{batch_of, arrays_of, laid_batch}
use Rattle.load_laws.specs.Load.{separator, block, block_token, copy, elements, kind_at, measure_at, byte_at, along, load}

-- ── Tests on numbers in a row ───────────────────────────────────────────────────────────────────────────────

-- n numbers from k on pass
unfoldable pub every : (ℕ → Bool) → ℕ → ℕ → Bool
every p k zero = true
every p k (suc n) = p k && every p (suc k) n

every_at : (p : ℕ → Bool) (k n i : ℕ) → every p k n ≡ true → i < n → p (k + i) ≡ true
unfolding every
every_at p k zero i e h = absurd (omega arith)
every_at p k (suc n) zero e h = rw (add-zero k) (both_true (p k) (every p (suc k) n) e).0
every_at p k (suc n) (suc i) e h =
    let z : k + suc i ≡ suc k + i = omega arith in
    rw z (every_at p (suc k) n i (both_true (p k) (every p (suc k) n) e).1 (omega arith))

every_below : (p : ℕ → Bool) (n i : ℕ) → every p 0 n ≡ true → i < n → p i ≡ true
every_below p n i e h = let z : 0 + i ≡ i = omega arith in rw z at (every_at p 0 n i e h)

-- ── The trees ───────────────────────────────────────────────────────────────────────────────────────────────

-- a batch of these trees alone
unfoldable pub trees_only : Batch
trees_only = record {
  trees = 3;
  kinds = along kind_at 0 elements;
  measures = along measure_at 0 elements;
  calls = [];
  targets = [];
  listed = [];
  inputs = [];
  outputs = [];
  noted = [];
  numbers = [];
  text = along byte_at 0 660;
}

-- line 5 reads nothing else
same_trees : (s : ℕ) → spelled (laid_batch (load s)) ≡ spelled trees_only
unfolding spelled Elements.unspelled batch_of arrays_of load trees_only
same_trees s = refl

unfoldable pub load_trees : List (Tree ℕ)
load_trees = get_or (spelled trees_only) []

spelled_some : is_some (spelled trees_only) ≡ true
unfolding
    List.zip Option.bind Lists.any Tree.list Tree.forest Tree.deepest Tree.deepest_of is_some
    Elements.is_node Elements.malformed Elements.pieces Elements.plant Elements.grow Elements.starts_with_token Elements.unspelled Elements.spelled
    along kind_at measure_at byte_at trees_only
spelled_some = refl

there : {A : Type 0} (d : A) (o : Option A) → is_some o ≡ true → o ≡ some (get_or o d)
unfolding is_some
there d none e = absurd (let z : ◌≡◌ {A = ℕ} 0 1 = cc in omega arith)
there d (some x) e = refl

-- LINE 5 lets every load pass.
pub spells : (s : ℕ) → spelled (laid_batch (load s)) ≡ some load_trees
unfolding load_trees
spells s = same_trees s ∙ there [] (spelled trees_only) spelled_some

-- ── The table ───────────────────────────────────────────────────────────────────────────────────────────────

-- what is known of each element
unfoldable pub T : Table
T = table 0 0 load_trees

-- token j of block i is its child j
unfoldable pub in_block : Table → ℕ → ℕ → Bool
in_block T i j = same_parent (parent T (block_token i j)) (some (block i)) && (eqb (child T (block_token i j)) j && not (root? T (block_token i j)))

-- separator i, block i and its tokens stand where they should
unfoldable pub group : Table → ℕ → Bool
group T i = not (root? T (separator i)) && (not (root? T (block i)) && (node? T (block i) && every (in_block T i) 0 4))

unfoldable pub told : Table → Bool
told T = eqb (length T) elements && (every (group T) 0 128 && (node? T copy && not (root? T copy)))

tells : told T ≡ true
unfolding
    List.zip List.head_d List.flat_map Option.bind Lists.any
    Tree.list Tree.forest Tree.deepest Tree.deepest_of Tree.last Tree.elements Tree.elements_of Tree.text Tree.text_of
    Elements.is_node Elements.malformed Elements.pieces Elements.plant Elements.grow Elements.starts_with_token Elements.unspelled Elements.spelled
    Elements.numbers Elements.rows Elements.rows_below Elements.table Elements.no_row Elements.row Elements.node? Elements.parent Elements.child Elements.root?
    along kind_at measure_at byte_at separator block block_token trees_only load_trees
    same_parent every in_block group told T
tells = refl

-- ── Told one by one ─────────────────────────────────────────────────────────────────────────────────────────

not-true : (b : Bool) → not b ≡ true → b ≡ false
not-true true e = sym e
not-true false e = refl

parts : (eqb (length T) elements ≡ true) × (every (group T) 0 128 ≡ true) × (node? T copy ≡ true) × (not (root? T copy) ≡ true)
unfolding told
parts =
    let (a, e) = both_true (eqb (length T) elements) _ tells in
    let (b, e) = both_true (every (group T) 0 128) _ e in
    let (c, d) = both_true (node? T copy) (not (root? T copy)) e in
    (a, b, c, d)

pub many : length T ≡ elements
many = eqb-true (length T) elements parts.0

-- the copy of a block, in tree 2
pub copied : (node? T copy ≡ true) × (root? T copy ≡ false)
copied = (parts.2, not-true _ parts.3)

-- what is known of token j of block i
pub record Token (i j : ℕ) : Type 0 where
  pub in_block_lem : parent T (block_token i j) ≡ some (block i)
  pub at : child T (block_token i j) ≡ j
  pub hangs : root? T (block_token i j) ≡ false

-- what is known of separator i, block i and its tokens
pub record Group (i : ℕ) : Type 0 where
  pub separator_hangs : root? T (separator i) ≡ false
  pub block_hangs : root? T (block i) ≡ false
  pub node : node? T (block i) ≡ true
  pub tokens : (j : ℕ) → j < 4 → Token i j

token_told : (i j : ℕ) → in_block T i j ≡ true → Token i j
unfolding in_block
token_told i j e =
    let (a, e) = both_true (same_parent (parent T (block_token i j)) (some (block i))) _ e in
    let (b, c) = both_true (eqb (child T (block_token i j)) j) (not (root? T (block_token i j))) e in
    record { in_block_lem = same_parent_lem (parent T (block_token i j)) (some (block i)) a; at = eqb-true (child T (block_token i j)) j b; hangs = not-true _ c }

pub group_told : (i : ℕ) → i < 128 → Group i
unfolding group
group_told i h =
    let e = every_below (group T) 128 i parts.1 h in
    let (a, e) = both_true (not (root? T (separator i))) _ e in
    let (b, e) = both_true (not (root? T (block i))) _ e in
    let (c, e) = both_true (node? T (block i)) _ e in
    record { separator_hangs = not-true _ a; block_hangs = not-true _ b; node = c; tokens = λ j k. token_told i j (every_below (in_block T i) 4 j e k) }
