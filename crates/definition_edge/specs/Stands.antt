-- What splices that are apart put in stands in the new tree: every prepared list, as it is, among the children of where its parent went.
-- Assumes nothing.
use Rattle.std.specs.Prelude.{◌≡◌}
use mathlib.Core.List.{◌++◌, List}
use Rattle.std.proofs.Math.Option.{some}
use Rattle.orders.specs.Tree.{Tree, Trees, node, list, Path, resolve}

-- l has these elements side by side
pub record Holds {A : Type 0} (l given : List A) : Type 0 where
  pub before : List A
  pub behind : List A
  pub parted : l ≡ before ++ (given ++ behind)

-- the element at q is a node that has these trees side by side among its children
pub record StandsIn {A : Type 0} (new : Tree A) (q : Path) (given : List (Tree A)) : Type 0 where
  pub kind : A
  pub children : Trees A
  pub found : resolve q new ≡ some (node kind children)
  pub holds : Holds (list children) given
