-- The definition computed on small lists.
-- Assumes nothing.
use Rattle.std.specs.Prelude.{◌≡◌, refl, List, [], ◌∷◌, ℕ}
use Rattle.std.proofs.Math.Option.{bind}
use Rattle.orders.specs.Lists.{pick, any}
use Rattle.orders.specs.Tree.{list, forest, resolve}
use Rattle.orders.specs.Splices.{same_path, left_of, under, from_root, from_child, at_root, below, insert_by_left, left_to_right, new_children, one_go}
use Rattle.orders.proofs.Numbers.{holds, new_number}
use Rattle.orders.proofs.Paths.{one_go_path}
use Rattle.orders.proofs.Check.{each, pairs, enters?, run?, fits?, apart?}
use Rattle.definition.specs.Basics.{refused, gives, ◌>>=◌, refuse}
use Rattle.definition_laws.specs.Basics.{up_from}
use Rattle.rows_model.specs.Place.{mark_of}
use Rattle.splices_model.specs.Cuts.{paths}
use Rattle.splices_model.specs.Bounds.{rows_to}
use Rattle.splices_model.specs.Verdict.{owed, closed, tree_rows, limited, roomy}
use Rattle.splices_model.specs.SpliceList.{trees_of, old_tree, words_of, splice_at, splices_to, tells_at, suits_at, suits_to, filled, rewritten, splice_list}

-- root(a, b), and room for three rows more: tokens of one and of two letters, which stand at 0 and 1
abbrev rows : List ℕ
rows = 2147483649 ∷ 2 ∷ 5 ∷ 10 ∷ 1 ∷ 0 ∷ 11 ∷ 2 ∷ 1 ∷ 9 ∷ 9 ∷ 9 ∷ 9 ∷ 9 ∷ 9 ∷ []

abbrev marks : List ℕ
marks = 7 ∷ 7 ∷ 7 ∷ []

-- c, a token without text
abbrev prepared : List ℕ
prepared = 12 ∷ 0 ∷ 4 ∷ []

-- c for a and b: root(c). Where b stood are zeros as far as a row more could come in, and 9 beyond; the third words of root and c tell nothing and are 0
pub replaced : splice_list rows marks (1 ∷ 0 ∷ 0 ∷ 2 ∷ 0 ∷ 1 ∷ []) prepared
    ≡ gives (record { rows = 2147483649 ∷ 1 ∷ 0 ∷ 12 ∷ 0 ∷ 0 ∷ 0 ∷ 0 ∷ 0 ∷ 0 ∷ 0 ∷ 0 ∷ 9 ∷ 9 ∷ 9 ∷ []; marks = 0 ∷ 0 ∷ 0 ∷ []; many = 2 })
unfolding splice_list ◌>>=◌ refuse limited roomy rows_to tree_rows closed owed trees_of old_tree words_of splice_at splices_to tells_at suits_at suits_to filled rewritten paths mark_of fits? run? resolve bind list forest pairs each apart? enters? same_path one_go at_root below pick from_root from_child under left_to_right insert_by_left left_of new_children one_go_path new_number holds any up_from
replaced = refl

-- the same with c before b too: an insertion inside a run that goes is not apart, in either order
pub inside : splice_list rows marks (1 ∷ 0 ∷ 0 ∷ 2 ∷ 0 ∷ 1 ∷ 2 ∷ 0 ∷ 1 ∷ 1 ∷ 0 ∷ 1 ∷ []) prepared ≡ refused 5
unfolding splice_list ◌>>=◌ refuse limited roomy rows_to tree_rows closed owed trees_of old_tree splice_at splices_to tells_at suits_at suits_to paths fits? run? resolve bind list forest pairs each apart? enters? same_path
inside = refl

-- a run of three of the two children does not fit
pub beyond : splice_list rows marks (1 ∷ 0 ∷ 0 ∷ 3 ∷ 0 ∷ 1 ∷ []) prepared ≡ refused 4
unfolding splice_list ◌>>=◌ refuse limited roomy rows_to tree_rows closed owed trees_of old_tree splice_at splices_to tells_at suits_at suits_to paths fits? run? resolve bind list forest pairs each
beyond = refl
