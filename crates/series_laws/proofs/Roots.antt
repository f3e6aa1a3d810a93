-- Every root stays a node, whatever steps are performed: a root gives way to a node only (line 6). So the new tree passes line 5, also where a root was replaced.
-- Assumes nothing.
use Rattle.std.specs.Prelude.{◌≡◌, Bool, cond, ◌&&◌, ℕ, ◌+◌, ◌≤◌, ◌<◌, length}
use Rattle.std.proofs.Math.Path.{refl, ap, subst}
use Rattle.std.proofs.Common.{sym, ◌∙◌, arith, length-append}
use Rattle.std.proofs.Math.Bool.{true, false, not}
use mathlib.Core.List.{List, [], ◌∷◌, ◌++◌, map, flat_map, head_d}
use Rattle.std.proofs.Math.Option.{Option, none, some, get_or, bind}
use Rattle.std.proofs.Math.ListN.{get_elem?}
use Rattle.orders.specs.Lists.{any, All}
use Rattle.orders.specs.ListLaws.{bool_absurd, some_inj, bind_some, get_mem, All-mem}
use Rattle.orders.specs.Tree.{Tree, node, token, forest, list, children, label, preorder, deepest_of, Path, Run, resolve, splice, HasRun, strip, front}
use Rattle.orders.proofs.TreeLaws.{list_forest, label_splice_in, front_child, Origin, kept, came, splice_origin}
use Rattle.definition.specs.Basics.{gives}
use Rattle.definition.specs.Elements.{Table, table, row, node?, root?, is_node, malformed, starts_with_token, spelled}
use Rattle.definition.specs.Recording.{first_child, after, Change, insert, replace, delete, replace_with_many, replace_all, call}
use Rattle.definition.specs.Planning.{Planned}
use Rattle.definition.specs.Rewriting.{Note}
use Rattle.definition.specs.Running.{World, begin, present, Yield, yield_at, yield, news, place, from_to, empty_at, spliced, step, steps}
use Rattle.definition.specs.Finishing.{new_tree}
use Rattle.definition_laws.specs.Spelling.{Worded}
use Rattle.definition_laws.specs.Answers.{gives_inj, given, bound}
use Rattle.definition_laws.specs.Kin.{not_root}
use Rattle.definition_laws.specs.Moves.{adjust_keeps}
use Rattle.definition_laws.specs.Right.{Right, judged, right_sits, right_news}
use Rattle.definition_laws.specs.Running.{Follows, present_kind, present_under, place_fits, step_follows, steps_follow, follows_begin, top}
use Rattle.definition_account.proofs.Run.{performs, first_present}
use Rattle.definition_account.proofs.Account.{Performed}
use Rattle.check_laws.specs.Check.{alone}
use Rattle.check_laws.specs.Claimed.{flat_of}
use Rattle.check_laws.proofs.Alone.{tops_resolve}
use Rattle.check_laws.proofs.Formed.{performed_formed, first_formed}
use Rattle.check_laws.proofs.Output.{flat_spelled, new_tree_lem}

-- each tree is a node
abbrev pub Nodes : Tree ℕ → Type 0
Nodes t = (i : ℕ) (v : Tree ℕ) → resolve (i ∷ []) t ≡ some v → is_node (label v) ≡ true

-- ── One splice ──────────────────────────────────────────────────────────────────────────────────────────────

nodes_splice : (q : Path) (a b : ℕ) (new : List (Tree ℕ)) (t : Tree ℕ) → HasRun t q a b → (q ≡ [] → All (λ c. is_node (label c) ≡ true) new) → Nodes t → Nodes (splice q a b new t)
unfolding resolve
nodes_splice q a b new t run n h i v f = go (splice_origin a b new q t (i ∷ []) v run f)
  where
    one : (p : Path) (u : Tree ℕ) → 1 ≡ length p → resolve p t ≡ some u → is_node (label u) ≡ true
    one [] u l e = absurd (omega arith)
    one (j ∷ []) u l e = h j u e
    one (j ∷ k ∷ p) u l e = absurd (omega arith)

    new_one : (q r : Path) (k : ℕ) (c : Tree ℕ) → i ∷ [] ≡ q ++ ((a + k) ∷ r) → (q ≡ [] → is_node (label c) ≡ true) → resolve r c ≡ some v → is_node (label v) ≡ true
    new_one [] [] k c y x z = subst (λ (w : Tree ℕ). is_node (label w) ≡ true) (some_inj z) (x refl)
    new_one [] (j ∷ r) k c y x z = absurd (omega (arith, ap length y))
    new_one (j ∷ q) r k c y x z = absurd (omega (arith, ap length y, length-append q ((a + k) ∷ r)))

    go : Origin a b new q t (i ∷ []) v → is_node (label v) ≡ true
    go (kept p u r m z) = ap is_node (ap label z ∙ label_splice_in a b new (strip p q) u) ∙ one p u ((adjust_keeps q a b (length new)).size p (i ∷ []) m) r
    go (came k c r g y z) = new_one q r k c y (λ e. All-mem (λ c. is_node (label c) ≡ true) new c (n e) (get_mem new k c g)) z

-- ── One step ────────────────────────────────────────────────────────────────────────────────────────────────

module _ (ts : List (Tree ℕ)) (notes : List Note) (f₀ : Follows ts (begin ts (table 0 0 ts) notes)) where
  abbrev T : Table
  T = table 0 0 ts

  abbrev first : World
  first = begin ts T notes

  -- what a listed element yields is of its kind
  yield_kind : (w : World) → Follows ts w → (e : ℕ) → e < length T → label (yield first w e).tree ≡ (row T e).kind
  unfolding yield yield_at
  yield_kind w f e l = go (present w e) refl
    where
      found : (t : Tree ℕ) (p : Path) → (y : Tree ℕ) × (resolve p t ≡ some y) × (label y ≡ (row T e).kind) → label (get_or (resolve p t) (token 0 [])) ≡ (row T e).kind
      found t p (y, a, b) = ap (λ (o : Option (Tree ℕ)). label (get_or o (token 0 []))) a ∙ b

      go : (o : Option Path) → present w e ≡ o → label (elim o as (λ o. Yield) [ none ↦ yield_at first (get_or (present first e) []) | some p ↦ yield_at w p ]).tree ≡ (row T e).kind
      go none z =
          ap (λ (o : Option Path). label (get_or (resolve (get_or o []) first.trees) (token 0 []))) (first_present ts notes e l)
          ∙ found first.trees (row T e).path (present_kind ts first f₀ e (row T e).path l (first_present ts notes e l))
      go (some p) z = found w.trees p (present_kind ts w f e p l z)

  -- an element below a root goes nowhere at the level of the trees
  below_root : (w : World) → Follows ts w → (x : ℕ) (p : Path) → x < length T → root? T x ≡ false → present w x ≡ some p → front p ≡ [] → ⊥
  below_root w f x p l r e z =
      let (m, i) = not_root ts x l r in
      let u = present_under ts w f x m p l i e in
      omega (arith, u.nonempty, ap length (sym (ap front u.parted ∙ front_child u.above u.number) ∙ z))

  -- "a token replacing a root" is refused: so only a node comes to that level
  by_node_lem : (w : World) → Follows ts w → (c : Change) (r : Run) → Right T c → place T w c ≡ some r → r.parent ≡ [] → All (λ e. node? T e ≡ true) (news c)
  unfolding place from_to empty_at news call head_d
  by_node_lem w f (insert first_child x l) r s e z =
      let k = place_fits ts w f (insert first_child x l) r (right_sits T (insert first_child x l) s) e in
      bound (present w x) _ e λ p g e. absurd (omega (arith, (k.roots z).0, ap (λ (r : Run). r.to) (some_inj e), ap (λ (r : Run). r.from) (some_inj e)))
  by_node_lem w f (insert after x l) r s e z =
      let k = place_fits ts w f (insert after x l) r (right_sits T (insert after x l) s) e in
      bound (present w x) _ e λ p g e. absurd (omega (arith, (k.roots z).0, ap (λ (r : Run). r.to) (some_inj e), ap (λ (r : Run). r.from) (some_inj e)))
  by_node_lem w f (replace x y) r s e z = go (root? T x) refl e (judged T (call (replace x y)) s).by_node
    where
      node_there : (b : Bool) → not b ≡ false → b ≡ true
      node_there true h = refl
      node_there false h = bool_absurd refl h

      go : (b : Bool) → root? T x ≡ b → bind (cond b (some (row T x).path) (present w x)) (λ p. some (from_to p p)) ≡ some r → (b && not (node? T y)) ≡ false → All (λ e. node? T e ≡ true) (y ∷ [])
      go true t e h = (node_there (node? T y) h, tt)
      go false t e h = bound (present w x) _ e λ p g e. absurd (below_root w f x p (right_sits T (replace x y) s) t g (ap (λ (r : Run). r.parent) (some_inj e) ∙ z))
  by_node_lem w f (delete x) r s e z = tt
  by_node_lem w f (replace_with_many x l) r s e z =
      let k = right_sits T (replace_with_many x l) s in
      bound (present w x) _ e λ p g e. absurd (below_root w f x p k.0 k.1 g (ap (λ (r : Run). r.parent) (some_inj e) ∙ z))
  by_node_lem w f (replace_all x y l) r s e z =
      let k = right_sits T (replace_all x y l) s in
      bound (present w x) _ e λ p g e. bound (present w y) _ e λ q i e. absurd (below_root w f x p k.0 k.2 g (ap (λ (r : Run). r.parent) (some_inj e) ∙ z))

  yields_nodes : (w : World) → Follows ts w → (es : List ℕ) → All (λ e. e < length T) es → All (λ e. node? T e ≡ true) es → All (λ c. is_node (label c) ≡ true) (map (λ y. y.tree) (map (yield first w) es))
  unfolding node?
  yields_nodes w f [] l n = tt
  yields_nodes w f (e ∷ es) l n = (ap is_node (yield_kind w f e l.0) ∙ n.0, yields_nodes w f es l.1 n.1)

  -- ── All steps ──

  steps_nodes : (ps : List Planned) (w last : World) → Follows ts w → Nodes w.trees → All (λ p. Right T p.change) ps → steps T first w ps ≡ gives last → Nodes last.trees
  unfolding steps spliced
  steps_nodes [] w last f h c e = subst (λ (z : World). Nodes z.trees) (gives_inj e) h
  steps_nodes (p ∷ ps) w last f h c e =
      given (step T first w p) _ e λ next a e.
      let d = performs T first w next p a in
      let r : Run = d.run in
      let fits = place_fits ts w f p.change r (right_sits T p.change c.0) d.there in
      let new = map (λ (y : Yield). y.tree) (map (yield first w) (news p.change)) in
      steps_nodes ps next last (step_follows ts first f₀.worded w next p f c.0 a)
      (subst (λ (z : World). Nodes z.trees) d.leaves (nodes_splice r.parent r.from r.to new w.trees fits.run (λ z. yields_nodes w f (news p.change) (right_news T p.change c.0) (by_node_lem w f p.change r c.0 d.there z)) h)) c.1 e

-- ── Line 5 ──────────────────────────────────────────────────────────────────────────────────────────────────

-- a node by its kind word is a node
starts_node : (t : Tree ℕ) → Worded t → is_node (label t) ≡ true → starts_with_token t ≡ false
unfolding starts_with_token label
starts_node (node w cs) h e = refl
starts_node (token w own) h e = bool_absurd e h

kind_node : (t : Tree ℕ) → Worded t → starts_with_token t ≡ false → is_node (label t) ≡ true
unfolding starts_with_token label
kind_node (node w cs) h e = h.0
kind_node (token w own) h e = bool_absurd refl e

first_nodes : (ts : List (Tree ℕ)) → All Worded ts → All (λ t. starts_with_token t ≡ false) ts → Nodes (top ts)
unfolding bind resolve children
first_nodes ts w b i v e =
    let (c, x, y) = bind_some (get_elem? (list (forest ts)) i) (λ c. resolve [] c) e in
    let there : get_elem? ts i ≡ some v = ap (λ (l : List (Tree ℕ)). get_elem? l i) (sym (list_forest ts)) ∙ (x ∙ y) in
    let m = get_mem ts i v there in
    kind_node v (All-mem Worded ts v w m) (All-mem (λ t. starts_with_token t ≡ false) ts v b m)

-- THE NEW TREE PASSES LINE 5, whatever changes were performed
pub new_spelled : (ts : List (Tree ℕ)) (notes : List Note) (ps : List Planned) (w : World) → Performed ts notes ps w → All (λ t. starts_with_token t ≡ false) ts → All (λ k. malformed k ≡ false) (map label (flat_map preorder ts))
    → 0 < length ts → deepest_of (children w.trees) ≤ 64 → spelled (alone (flat_of (new_tree w))) ≡ some (new_tree w)
unfolding new_tree begin resolve bind list forest
new_spelled ts notes ps w h b m l d =
    let f₀ = follows_begin ts notes h.worded in
    let first = begin ts (table 0 0 ts) notes in
    let f = steps_follow ts first f₀.worded ps first w f₀ h.right h.ran in
    let nodes = steps_nodes ts notes f₀ ps first w f₀ (first_nodes ts h.worded b) h.right h.ran in
    let t = new_tree_lem w (omega (arith, f.roots)) f.worded d in
    let formed = first_formed (list (children w.trees)) w.trees (λ q. tops_resolve w.trees 2147483648 q) (performed_formed ts notes ps w h m) in
    let there : resolve (0 ∷ []) w.trees ≡ some t.root = sym (tops_resolve w.trees 2147483648 []) ∙ ap (λ (us : List (Tree ℕ)). resolve (0 ∷ []) (node 2147483648 (forest us))) t.is in
    subst (λ (us : List (Tree ℕ)). spelled (alone (flat_of us)) ≡ some us) (sym t.is)
    (flat_spelled t.root t.worded (starts_node t.root t.worded (nodes 0 t.root there)) t.shallow (subst (λ (us : List (Tree ℕ)). any malformed (map label (flat_map preorder us)) ≡ false) t.is formed))
