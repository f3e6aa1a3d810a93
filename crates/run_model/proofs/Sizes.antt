-- 12 told from rows: whether what a step makes is too large.
-- Assumes nothing.
use Rattle.std.specs.Prelude.{◌≡◌, Bool, ◌||◌, List, map, ℕ, suc, ◌+◌, ◌≤◌, ltb, length}
use Rattle.std.proofs.Common.{sym, ap, ◌∙◌, inl, inr, arith, lt-ltb, le-ltb}
use Rattle.std.proofs.Math.Option.{Option}
use Rattle.std.proofs.lemmas.List.{length-map}
use Rattle.orders.specs.ListLaws.{lt_or_le}
use Rattle.orders.specs.Tree.{Tree, node, token, Path, splice, HasRun, text, text_of, deepest_of, children}
use Rattle.orders.proofs.TreeLaws.{run_token}
use Rattle.definition.specs.Running.{World, Yield, Run, spliced, too_large}
use Rattle.rows_model.specs.Row.{rows_of, bytes, height}
use Rattle.rows_model.proofs.RowLaws.{size_below, bytes_tree, height_all}
use Rattle.rows_model.proofs.Depth.{root_node, depth_splice}
use Rattle.run_model.specs.Store.{held_note, store, store_too_large}
use Rattle.run_model.proofs.Parts.{part_in}
use Rattle.run_model.proofs.Spliced.{trees_of, new_rows_lem}

-- the root of all is no element
one_more : (m n : ℕ) → m ≡ suc n → ltb 4097 m ≡ ltb 4096 n
one_more m n e = elim (lt_or_le 4096 n) [
  | inl w ↦ lt-ltb 4097 m (omega arith) ∙ sym (lt-ltb 4096 n w)
  | inr w ↦ le-ltb 4097 m (omega arith) ∙ sym (le-ltb 4096 n w)
]

-- and has no text of its own
bytes_below : (q : Path) (a b : ℕ) (new : List (Tree ℕ)) (t : Tree ℕ) → HasRun t q a b → bytes (rows_of (splice q a b new t)) ≡ length (text_of (children (splice q a b new t)))
unfolding text
bytes_below q a b new (token k x) h = absurd (run_token k x q a b h)
bytes_below q a b new (node k cs) h = ap (λ u. bytes (rows_of u)) (root_node a b new q k cs) ∙ bytes_tree (node k (children (splice q a b new (node k cs))))

-- two judgements alike, part by part
pub any_same : {a a' b b' c c' d d' : Bool} → a ≡ a' → b ≡ b' → c ≡ c' → d ≡ d' → (a || b || c || d) ≡ (a' || b' || c' || d')
any_same e f g h = rw (e, f, g, h)

-- What a step makes is too large by its rows just where it is by the definition, if what was before it was within depth 64.
pub store_too_large_lem : (w : World) (r : Run) (new : List Yield) (recorded : Option ℕ) → HasRun w.trees r.parent r.from r.to → deepest_of (children w.trees) ≤ 64
    → store_too_large (length r.parent) (map part_in new) (store (spliced r new recorded w)) ≡ too_large (spliced r new recorded w)
unfolding store_too_large too_large store spliced
store_too_large_lem w r new recorded run h =
    let next : Tree ℕ = splice r.parent r.from r.to (trees_of new) w.trees in
    any_same
    (one_more _ _ (size_below next))
    (ap (ltb 16384) (bytes_below r.parent r.from r.to (trees_of new) w.trees run))
    (ap (ltb 1024) (length-map (spliced r new recorded w).notes (held_note next)))
    (ap (λ n. ltb 64 (length r.parent + n)) (ap height (new_rows_lem new) ∙ height_all (trees_of new)) ∙ sym (depth_splice r.from r.to (trees_of new) r.parent w.trees 64 run h))
