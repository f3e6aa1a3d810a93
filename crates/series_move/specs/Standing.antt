-- A bookmark's path now: down the old path each element has its mark, and behind its parent as many more trees begin than from it on as its number tells.
-- Assumes nothing.
use Rattle.std.specs.Prelude.{◌≡◌, ℕ, suc, ◌+◌, ◌*◌, ◌^◌, ◌≤◌, ◌<◌, drop}
use Rattle.std.proofs.Math.Path.{sym, ap}
use Rattle.std.proofs.Common.{◌∙◌, get_or-take, take-append-drop}
use mathlib.Core.List.{List, [], ◌∷◌, ◌++◌, map, tail}
use Rattle.std.proofs.Math.Option.{Option, none, some}
use native.Mathlib.Omega.{arith}
use Rattle.std.proofs.Math.ListN.{length, get_or, take, length-map}
use Rattle.std.proofs.Math.Seq.{length-take-le, take-suc}
use Rattle.std.proofs.Props.{props}
use Rattle.orders.specs.ListLaws.{map_some, bind_some}
use Rattle.orders.specs.Tree.{Tree, Path, resolve}
use Rattle.orders.proofs.TreeLaws.{resolve_append}
use Rattle.definition.specs.Elements.{Table, table, row, no_row}
use Rattle.definition.specs.Running.{World}
use Rattle.definition_laws.specs.Basics.{get_d_map}
use Rattle.definition_laws.specs.Rows.{Element, row_of, element}
use Rattle.definition_laws.specs.Kin.{element_tree, element_path, element_stands, stands_within, row_told_lem}
use Rattle.definition_laws.specs.Running.{top, Follows}
use Rattle.definition_account.proofs.Moving.{keeps_above, parts_same}
use Rattle.rows_model.specs.Row.{rows_of, first_rows}
use Rattle.rows_model.specs.Place.{place, mark_of}
use Rattle.rows_model.proofs.Numbers.{element_row}
use Rattle.rows_children.specs.Tables.{ChildrenTold, children_prop, BegunTold, begun_prop}
use Rattle.rows_children.proofs.Looks.{child_stands, number_stands}

-- what a run leaves: the rows of the batch's e elements behind that of the node above all trees, n rows of the current trees, and where each element stands
pub record Stood (source : List ℕ) (e : ℕ) (marks rows : List ℕ) (n : ℕ) : Type 0 where
  pub trees : List (Tree ℕ)
  pub world : World
  pub follows : Follows trees world
  pub old_text : List ℕ
  pub old : first_rows old_text (e + 1) source ≡ rows_of (top trees)
  pub new_text : List ℕ
  pub new : first_rows new_text n rows ≡ rows_of world.trees
  pub told : take e marks ≡ map (mark_of world.trees) world.paths
  -- a path of tree 0 stays one
  pub home : (p u : Path) (v : Tree ℕ) → resolve (0 ∷ p) (top trees) ≡ some v → follows.move (0 ∷ p) ≡ some u → u ≡ 0 ∷ tail u
  pub many : e ≤ length marks
  pub long_old : 3 * (e + 1) ≤ length source
  pub long_new : 3 * n ≤ length rows
  pub few : e < 2 ^ 12
  pub few_new : n ≤ 4097

-- the tables of its rows: the children of the old ones, and the trees that begin from each of the new ones on
pub record Tables (source : List ℕ) (e : ℕ) (rows : List ℕ) (n : ℕ) (first child begun : List ℕ) : Type 0 where
  pub children : ChildrenTold source (e + 1) first child
  pub trees : BegunTold rows n begun

-- there is at most one proof of it, so that it can be a field
pub tables_prop : (source : List ℕ) (e : ℕ) (rows : List ℕ) (n : ℕ) (first child begun : List ℕ) → IsProp (Tables source e rows n first child begun)
tables_prop source e rows n first child begun = hlevel (children_prop, begun_prop, props)

module _ {source : List ℕ} {e : ℕ} {marks rows : List ℕ} {n : ℕ} (s : Stood source e marks rows n) (path : Path) (v : Tree ℕ) (leads : resolve (0 ∷ path) (top s.trees) ≡ some v) where
  T : Table
  T = table 0 0 s.trees

  -- the way down is there
  old_at : (j : ℕ) → (u : Tree ℕ) × (resolve (0 ∷ take j path) (top s.trees) ≡ some u)
  old_at j =
      let (u, a, b) = bind_some (resolve (0 ∷ take j path) (top s.trees)) (λ u. resolve (drop j path) u) (sym (resolve_append (0 ∷ take j path) (drop j path) (top s.trees)) ∙ (ap (λ (p : Path). resolve (0 ∷ p) (top s.trees)) (take-append-drop j path) ∙ leads)) in
      (u, a)

  -- one step down
  pub child_told : (j : ℕ) → j < length path → {first child : List ℕ} → ChildrenTold source (e + 1) first child → get_or child (get_or first (place (0 ∷ take j path) (top s.trees)) 0 + get_or path j 0) 0 ≡ place (0 ∷ take (suc j) path) (top s.trees)
  child_told j h v =
      let z : 0 ∷ take (suc j) path ≡ (0 ∷ take j path) ++ (get_or path j 0 ∷ []) = ap {B = Path} (λ (p : Path). 0 ∷ p) (take-suc path j 0 h) in
      let (u, a) = old_at (suc j) in
      child_stands s.old_text source (e + 1) (top s.trees) s.long_old s.old (0 ∷ take j path) (get_or path j 0) u (ap (λ (p : Path). resolve p (top s.trees)) (sym z) ∙ a) v ∙ ap (λ (p : Path). place p (top s.trees)) (sym z)

  -- an element at such a place: its row is one more than its number, and its mark is where it stands now
  pub mark_at : (j : ℕ) → (k : ℕ) × (k < e) × (place (0 ∷ take j path) (top s.trees) ≡ suc k) × (get_or marks k 0 ≡ mark_of s.world.trees (s.follows.move (0 ∷ take j path)))
  unfolding row_of row
  mark_at j =
      let (u, a) = old_at j in
      let p : Path = 0 ∷ take j path in
      let (x, i, z) = map_some (λ (x : Element). x.tree) (element s.trees p) (element_tree s.trees 0 (take j path) 2147483648 ∙ a) in
      let k = x.number in
      let l : k < length (table 0 0 s.trees) = stands_within s.trees k (element_stands s.trees p x i) in
      let is : (row (table 0 0 s.trees) k).path ≡ p = ap (λ r. r.path) (row_told_lem s.trees p x i) ∙ element_path s.trees p x i in
      let paths : length s.world.paths ≡ length (table 0 0 s.trees) = ap length s.follows.paths ∙ length-map (table 0 0 s.trees) (λ r. s.follows.move r.path) in
      let within : k < e = omega (arith, ap length s.told, length-take-le e marks s.many, length-map s.world.paths (mark_of s.world.trees)) in (
        k,
        within,
        ap (λ (p : Path). place p (top s.trees)) (sym is) ∙ element_row s.trees 2147483648 k l,
        sym (get_or-take e marks k 0 within) ∙ (ap (λ (l : List ℕ). get_or l k 0) s.told ∙ (get_d_map (mark_of s.world.trees) s.world.paths k 0 none (omega arith)
            ∙ ap (mark_of s.world.trees) (ap (λ (l : List (Option Path)). get_or l k none) s.follows.paths ∙ (get_d_map (λ r. s.follows.move r.path) (table 0 0 s.trees) k none no_row l ∙ ap s.follows.move is)))),
      )

  module _ (q : Path) (m : s.follows.move (0 ∷ path) ≡ some (0 ∷ q)) where
    abbrev now : Tree ℕ
    now = s.world.trees

    pub path_long : length q ≡ length path
    path_long = omega (arith, s.follows.keeps.size (0 ∷ path) (0 ∷ q) m)

    -- each element on the way stands where the new path leads
    moved_at : (j : ℕ) → j ≤ length path → s.follows.move (0 ∷ take j path) ≡ some (0 ∷ take j q)
    moved_at j h =
        let c : Path = 0 ∷ take j path in
        let (c', r', a, b, l) = keeps_above s.follows.move s.follows.keeps c (drop j path) (0 ∷ q) (ap (λ (p : Path). s.follows.move (0 ∷ p)) (take-append-drop j path) ∙ m) in
        let long : length (0 ∷ take j q) ≡ length c' = omega (arith, s.follows.keeps.size c c' a, length-take-le j path h, length-take-le j q (omega (arith, path_long))) in
        let (same, _) = parts_same (0 ∷ take j q) c' (drop j q) r' long (ap {B = Path} (λ (p : Path). 0 ∷ p) (take-append-drop j q) ∙ b) in
        a ∙ ap {B = Option Path} some (sym same)

    new_at : (j : ℕ) → j ≤ length path → (y : Tree ℕ) × (resolve (0 ∷ take j q) s.world.trees ≡ some y)
    new_at j h =
        let (u, a) = old_at j in
        let (y, b, c) = s.follows.leads (0 ∷ take j path) (0 ∷ take j q) u a (moved_at j h) in
        (y, b)

    pub mark_now : (j : ℕ) → j ≤ length path → (k : ℕ) × (k < e) × (place (0 ∷ take j path) (top s.trees) ≡ suc k) × (get_or marks k 0 ≡ place (0 ∷ take j q) s.world.trees)
    unfolding mark_of
    mark_now j h = let (k, a, b, c) = mark_at j in (k, a, b, c ∙ ap (mark_of s.world.trees) (moved_at j h))

    -- and what its number is now
    pub number_told : (j : ℕ) → j < length path → {begun : List ℕ} → BegunTold rows n begun → get_or begun (suc (place (0 ∷ take j q) s.world.trees)) 0 ≡ get_or q j 0 + get_or begun (place (0 ∷ take (suc j) q) s.world.trees) 0
    number_told j h {begun} v =
        let i = get_or q j 0 in
        let p : Path = 0 ∷ take j q in
        let z : 0 ∷ take (suc j) q ≡ p ++ (i ∷ []) = ap {B = Path} (λ (p : Path). 0 ∷ p) (take-suc q j 0 (omega (arith, path_long))) in
        let (y, a) = new_at (suc j) (omega arith) in
        number_stands s.new_text rows n now s.long_new s.new p i y (ap (λ (p : Path). resolve p now) (sym z) ∙ a) v ∙ ap (λ (p : Path). i + get_or begun (place p now) 0) (sym z)
