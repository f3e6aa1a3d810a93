-- A run: whatever steps are performed, each present path leads to an element of its kind, and each step's run is a run of a node's children.
-- Assumes nothing.
use Rattle.std.specs.Prelude.{◌≡◌, Bool, cond, ◌⊎◌, ℕ, suc, ◌≤◌, ◌<◌, take, drop}
use Rattle.std.proofs.Math.Path.{refl, ap}
use Rattle.std.proofs.Common.{sym, ◌∙◌, inl, inr}
use Rattle.std.proofs.Math.Bool.{true, false}
use mathlib.Core.List.{List, [], ◌∷◌, ◌++◌, map, map-map}
use Rattle.std.proofs.Math.Option.{Option, none, some, get_or, bind}
use native.Mathlib.Omega.{arith}
use Rattle.std.proofs.Math.ListN.{length, get_elem?, length-map}
use Rattle.orders.specs.Lists.{All}
use Rattle.orders.specs.ListLaws.{bool_absurd, some_inj, none_some, bind_some, get_lt, get_mem, All-mem, lt_or_le, length_modify, length_cut}
use Rattle.orders.specs.Tree.{Tree, Trees, node, token, list, forest, label, Path, resolve, adjust, modify, splice, HasRun, children, last, front, strip}
use Rattle.orders.proofs.TreeLaws.{list_forest, resolve_child, resolve_append, front_child, last_child, run_here, label_splice_in, splice_in, resolve_splice}
use Rattle.definition.specs.Basics.{gives, refuse, or_refuse}
use Rattle.definition.specs.Elements.{Table, table, is_node, no_row, row, node?, root?, parent, child, tree, depth}
use Rattle.definition.specs.Recording.{first_child, after, Change, insert, replace, delete, replace_with_many, replace_all}
use Rattle.definition.specs.Planning.{Planned}
use Rattle.definition.specs.Rewriting.{Note}
use Rattle.definition.specs.Running.{World, begin, present, Yield, yield_at, yield, news, Run, from_to, empty_at, place, spliced, too_large, recorded_by, step, steps}
use Rattle.definition.specs.Refusals.{Accepted}
use Rattle.definition.specs.Answers.{Plan, performed, at_first, ran}
use Rattle.definition_laws.specs.Basics.{All-append, All-take, All-drop, All-modify, get_d_map}
use Rattle.definition_laws.specs.Answers.{gives_inj, given, bound, is_there}
use Rattle.definition_laws.specs.Spelling.{Worded, worded_list, forest_worded}
use Rattle.definition_laws.specs.Kin.{IsParent, path_leads, path_long, parent_is, root_is, not_root, depth_path}
use Rattle.definition_laws.specs.Moves.{Keeps, adjust_keeps, stay_keeps, more_keeps}
use Rattle.definition_laws.specs.Right.{Right, Sits, right_sits}

-- ── Kind words of parts and of spliced trees ────────────────────────────────────────────────────────────────

pub worded_resolve : (p : Path) (t x : Tree ℕ) → Worded t → resolve p t ≡ some x → Worded x
unfolding resolve
worded_resolve [] t x h e = rw (some_inj e) at h
worded_resolve (i ∷ p) (token w own) x h e = none_some e
worded_resolve (i ∷ p) (node w cs) x h e =
    let (c, a, b) = resolve_child w cs i p x e in
    worded_resolve p c x (All-mem Worded (list cs) c (worded_list cs h.1) (get_mem (list cs) i c a)) b

pub worded_splice : (q : Path) (a b : ℕ) (new : List (Tree ℕ)) (t : Tree ℕ) → All Worded new → Worded t → Worded (splice q a b new t)
unfolding splice
worded_splice [] a b new (token w own) n h = h
worded_splice [] a b new (node w cs) n h =
    let l = worded_list cs h.1 in
    let m = list cs in
    (h.0, forest_worded (take a m ++ (new ++ drop b m)) (All-append Worded (take a m) (new ++ drop b m) (All-take Worded a m l) (All-append Worded new (drop b m) n (All-drop Worded b m l))))
worded_splice (j ∷ q) a b new (token w own) n h = h
worded_splice (j ∷ q) a b new (node w cs) n h =
    let f : Tree ℕ → Tree ℕ = λ c. splice q a b new c in
    (h.0, forest_worded (modify j f (list cs)) (All-modify Worded f (λ c k. worded_splice q a b new c n k) j (list cs) (worded_list cs h.1)))

-- a tree that has a node's kind word is a node
pub node_worded : (x : Tree ℕ) → Worded x → is_node (label x) ≡ true → (w : ℕ) × (cs : Trees ℕ) × (x ≡ node w cs)
unfolding label
node_worded (node w cs) h e = (w, cs, refl)
node_worded (token w own) h e = bool_absurd e h

-- what has a child is a node
node_above : (x y : Tree ℕ) (i : ℕ) → resolve (i ∷ []) x ≡ some y → (w : ℕ) × (cs : Trees ℕ) × (x ≡ node w cs) × (i < length (list cs))
unfolding resolve
node_above (token w own) y i e = none_some e
node_above (node w cs) y i e = let (c, a, b) = resolve_child w cs i [] y e in (w, cs, refl, get_lt (list cs) i a)

-- ── What holds of the current trees ─────────────────────────────────────────────────────────────────────────

-- the batch's trees as the children of one node
abbrev pub top : List (Tree ℕ) → Tree ℕ
top ts = node 2147483648 (forest ts)

-- What holds of the current trees, whatever steps were performed on the batch's trees ts.
pub record Follows (ts : List (Tree ℕ)) (w : World) : Type 0 where
  -- where each path of the batch's trees has moved
  pub move : Path → Option Path
  pub keeps : Keeps move
  -- the present path of each element is its path as moved
  pub paths : w.paths ≡ map (λ r. move r.path) (table 0 0 ts)
  -- a path that survives leads to an element of the same kind
  pub leads : (p q : Path) (x : Tree ℕ) → resolve p (top ts) ≡ some x → move p ≡ some q → (y : Tree ℕ) × (resolve q w.trees ≡ some y) × (label y ≡ label x)
  -- as many trees as there were
  pub roots : length (list (children w.trees)) ≡ length ts
  -- kind words fit nodes and tokens
  pub worded : Worded w.trees

-- before the first step
pub follows_begin : (ts : List (Tree ℕ)) (notes : List Note) → All Worded ts → Follows ts (begin ts (table 0 0 ts) notes)
unfolding begin children is_node
follows_begin ts notes h = record {
  move = λ p. some p;
  keeps = stay_keeps;
  paths = refl;
  leads = λ p q x e f. (x, rw (← some_inj f) e, refl);
  roots = ap length (list_forest ts);
  worded = (refl, forest_worded ts h);
}

module _ (ts : List (Tree ℕ)) (w : World) (f : Follows ts w) where
  -- what is known of each element of the trees
  abbrev T : Table
  T = table 0 0 ts

  -- the present path of an element
  pub present_moved : (e : ℕ) → e < length T → present w e ≡ f.move (row T e).path
  unfolding present row
  present_moved e h = rw f.paths (get_d_map (λ r. f.move r.path) T e none no_row h)

  -- A present path leads to an element of the kind of its row.
  pub present_kind : (e : ℕ) (p : Path) → e < length T → present w e ≡ some p → (y : Tree ℕ) × (resolve p w.trees ≡ some y) × (label y ≡ (row T e).kind)
  present_kind e p h g =
      let (x, a, b) = path_leads ts e 2147483648 h in
      let (y, c, d) = f.leads (row T e).path p x a (sym (present_moved e h) ∙ g) in
      (y, c, d ∙ b)

  -- it is as long as the element is deep
  pub present_depth : (e : ℕ) (p : Path) → e < length T → present w e ≡ some p → length p ≡ depth T e
  present_depth e p h g = f.keeps.size (row T e).path p (sym (present_moved e h) ∙ g) ∙ sym (depth_path ts e h)

  -- its parent is present, and the path ends with a child number there
  pub record Under (m : ℕ) (p : Path) : Type 0 where
    pub above : Path
    pub number : ℕ
    pub parted : p ≡ above ++ (number ∷ [])
    pub parent : present w m ≡ some above
    pub nonempty : 0 < length above
    pub kind : ℕ
    pub children : Trees ℕ
    pub found : resolve above w.trees ≡ some (node kind children)
    pub within : number < length (list children)

  pub present_under : (e m : ℕ) (p : Path) → e < length T → IsParent ts m e → present w e ≡ some p → Under m p
  present_under e m p h k g =
      let (above, number, a, z) = f.keeps.child (row T m).path p (child T e) (ap f.move (sym k.path) ∙ (sym (present_moved e h) ∙ g)) in
      let (y, c, d) = present_kind e p h g in
      let (x, b, v) = bind_some (resolve above w.trees) (λ u. resolve (number ∷ []) u) (sym (resolve_append above (number ∷ []) w.trees) ∙ (ap (λ q. resolve q w.trees) (sym z) ∙ c)) in
      let (kind, cs, i, l) = node_above x y number v in
      record {
        above = above;
        number = number;
        parted = z;
        parent = present_moved m k.within ∙ a;
        nonempty = omega (arith, f.keeps.size (row T m).path above a, path_long ts m k.within);
        kind = kind;
        children = cs;
        found = b ∙ ap {B = Option (Tree ℕ)} some i;
        within = l;
      }

  -- present siblings keep their parent and their order
  pub present_order : (m x y : ℕ) (p q : Path) → x < length T → y < length T → IsParent ts m x → IsParent ts m y → child T x ≤ child T y → present w x ≡ some p → present w y ≡ some q
      → (front q ≡ front p) × (last p ≤ last q)
  present_order m x y p q h k a b o g i = go (present_under x m p h a g) (present_under y m q k b i)
    where
      go : Under m p → Under m q → (front q ≡ front p) × (last p ≤ last q)
      go u v = (fq ∙ (same ∙ sym fp), either (lt_or_le (child T x) (child T y)))
        where
          same : v.above ≡ u.above
          same = some_inj (sym v.parent ∙ u.parent)

          fp : front p ≡ u.above
          fp = ap front u.parted ∙ front_child u.above u.number

          fq : front q ≡ v.above
          fq = ap front v.parted ∙ front_child v.above v.number

          lp : last p ≡ u.number
          lp = ap last u.parted ∙ last_child u.above u.number

          lq : last q ≡ v.number
          lq = ap last v.parted ∙ last_child v.above v.number

          moved : (e : ℕ) (r : Path) → e < length T → IsParent ts m e → present w e ≡ some r → f.move ((row T m).path ++ (child T e ∷ [])) ≡ some r
          moved e r h a g = ap f.move (sym a.path) ∙ (sym (present_moved e h) ∙ g)

          either : (child T x < child T y) ⊎ (child T y ≤ child T x) → last p ≤ last q
          either (inl l) =
              let z = f.keeps.order (row T m).path u.above (child T x) (child T y) u.number v.number l
              (moved x p h a g ∙ ap {B = Option Path} some u.parted) (moved y q k b i ∙ ap {B = Option Path} some (v.parted ∙ ap (λ r. r ++ (v.number ∷ [])) same)) in
              omega (arith, lp, lq)
          either (inr l) =
              let z : child T y ≡ child T x = omega arith in
              let e : p ≡ q = some_inj (sym (moved x p h a g) ∙ (ap (λ n. f.move ((row T m).path ++ (n ∷ []))) (sym z) ∙ moved y q k b i)) in
              omega (arith, ap last e)

  -- ── Where a change goes ──

  -- the run to which a change goes is a run of a node's children; at the level of the trees it is one tree, which gives way to one
  pub record Fits (c : Change) (r : Run) : Type 0 where
    pub run : HasRun w.trees r.parent r.from r.to
    pub roots : r.parent ≡ [] → (r.to ≡ suc r.from) × (length (news c) ≡ 1)

  -- runs of the parent of a present element, up to behind it
  under_fits : (m : ℕ) (p : Path) (c : Change) (a b : ℕ) → Under m p → a ≤ b → b ≤ suc (last p) → Fits c (record { parent = front p; from = a; to = b })
  under_fits m p c a b u h k =
      let fp : front p ≡ u.above = ap front u.parted ∙ front_child u.above u.number in
      let lp : last p ≡ u.number = ap last u.parted ∙ last_child u.above u.number in
      record {
        run = record { kind = u.kind; children = u.children; found = rw fp u.found; ordered = h; within = omega (arith, u.within) };
        roots = λ e. absurd (omega (arith, u.nonempty, ap length (sym fp ∙ e)));
      }

  below_fits : (x : ℕ) (p : Path) (c : Change) (a b : ℕ) → x < length T → root? T x ≡ false → present w x ≡ some p → a ≤ b → b ≤ suc (last p) → Fits c (record { parent = front p; from = a; to = b })
  below_fits x p c a b h e g k l = let (m, i) = not_root ts x h e in under_fits m p c a b (present_under x m p h i g) k l

  first_fits : (x : ℕ) (p : Path) (c : Change) → x < length T → node? T x ≡ true → present w x ≡ some p → Fits c (empty_at p 0)
  unfolding empty_at node?
  first_fits x p c h e g =
      let (y, a, b) = present_kind x p h g in
      let (k, cs, i) = node_worded y (worded_resolve p w.trees y f.worded a) (ap is_node b ∙ e) in
      record {
        run = record { kind = k; children = cs; found = a ∙ ap {B = Option (Tree ℕ)} some i; ordered = omega arith; within = omega arith };
        roots = λ z. absurd (omega (arith, ap length z, present_depth x p h g, depth_path ts x h, path_long ts x h));
      }

  -- the level of the trees
  top_run : (t : ℕ) → t < length ts → HasRun w.trees [] t (suc t)
  unfolding resolve label is_node children
  top_run t h =
      let (y, a, b) = f.leads [] [] (top ts) refl f.keeps.root in
      let (k, cs, i) = node_worded w.trees f.worded (ap is_node (ap label (some_inj a) ∙ b)) in
      record { kind = k; children = cs; found = ap {B = Option (Tree ℕ)} some i; ordered = omega arith; within = omega (arith, f.roots, ap (λ x. length (list (children x))) i) }

  root_fits : (x : ℕ) (c : Change) → x < length T → root? T x ≡ true → length (news c) ≡ 1 → Fits c (from_to (row T x).path (row T x).path)
  unfolding from_to front last
  root_fits x c h e n =
      let (y, a, b) = path_leads ts x 2147483648 h in
      let path = (root_is ts x h e).path in
      let (d, i, j) = resolve_child 2147483648 (forest ts) (tree T x) [] y (ap (λ p. resolve p (top ts)) (sym path) ∙ a) in
      rw path (record { run = top_run (tree T x) (get_lt ts (tree T x) (ap (λ l. get_elem? l (tree T x)) (sym (list_forest ts)) ∙ i)); roots = λ z. (refl, n) })

  run_fits : (x y : ℕ) (p q : Path) (c : Change) → x < length T → y < length T → root? T x ≡ false → parent T x ≡ parent T y → child T x ≤ child T y
      → present w x ≡ some p → present w y ≡ some q → Fits c (from_to p q)
  unfolding from_to
  run_fits x y p q c h k e s o g i =
      let (m, a) = not_root ts x h e in
      let b : IsParent ts m y = parent_is ts y m k (sym s ∙ a.parent) in
      let (fq, l) = present_order m x y p q h k a b o g i in
      rw (← fq) (under_fits m q c (last p) (suc (last q)) (present_under y m q k b i) (omega arith) (omega arith))

  pub place_fits : (c : Change) (r : Run) → Sits T c → place T w c ≡ some r → Fits c r
  unfolding place empty_at from_to news
  place_fits (insert first_child x l) r s e = bound (present w x) _ e λ p g e. rw (← some_inj e) (first_fits x p (insert first_child x l) s.0 s.1 g)
  place_fits (insert after x l) r s e = bound (present w x) _ e λ p g e. rw (← some_inj e) (below_fits x p (insert after x l) (suc (last p)) (suc (last p)) s.0 s.1 g (omega arith) (omega arith))
  place_fits (replace x y) r s e = go (root? T x) refl e
    where
      go : (b : Bool) → root? T x ≡ b → bind (cond b (some (row T x).path) (present w x)) (λ p. some (from_to p p)) ≡ some r → Fits (replace x y) r
      go true t e = bound (some (row T x).path) _ e λ p g e. rw (← some_inj e, ← some_inj g) (root_fits x (replace x y) s t refl)
      go false t e = bound (present w x) _ e λ p g e. rw (← some_inj e) (below_fits x p (replace x y) (last p) (suc (last p)) s t g (omega arith) (omega arith))
  place_fits (delete x) r s e = bound (present w x) _ e λ p g e. rw (← some_inj e) (below_fits x p (delete x) (last p) (suc (last p)) s.0 s.1 g (omega arith) (omega arith))
  place_fits (replace_with_many x l) r s e = bound (present w x) _ e λ p g e. rw (← some_inj e) (below_fits x p (replace_with_many x l) (last p) (suc (last p)) s.0 s.1 g (omega arith) (omega arith))
  place_fits (replace_all x y l) r s e =
      bound (present w x) _ e λ p g e. bound (present w y) _ e λ q i e. rw (← some_inj e) (run_fits x y p q (replace_all x y l) s.0 s.1 s.2 s.3 s.4 g i)

-- ── One step ────────────────────────────────────────────────────────────────────────────────────────────────

found_worded : (p : Path) (t : Tree ℕ) → Worded t → Worded (get_or (resolve p t) (token 0 []))
unfolding is_node
found_worded p t h = go (resolve p t) refl
  where
    go : (o : Option (Tree ℕ)) → resolve p t ≡ o → Worded (get_or o (token 0 []))
    go none e = refl
    go (some x) e = worded_resolve p t x h e

pub yield_worded : (first w : World) (e : ℕ) → Worded first.trees → Worded w.trees → Worded (yield first w e).tree
unfolding yield yield_at
yield_worded first w e h k = go (present w e)
  where
    go : (o : Option Path) → Worded (elim o as (λ o. Yield) [ none ↦ yield_at first (get_or (present first e) []) | some p ↦ yield_at w p ]).tree
    go none = found_worded (get_or (present first e) []) first.trees h
    go (some p) = found_worded p w.trees k

yields_worded : (first w : World) (es : List ℕ) → Worded first.trees → Worded w.trees → All Worded (map (λ y. y.tree) (map (yield first w) es))
yields_worded first w [] h k = tt
yields_worded first w (e ∷ es) h k = (yield_worded first w e h k, yields_worded first w es h k)

-- a splice keeps the number of trees, if at their level it puts one for one
roots_splice : (q : Path) (a b : ℕ) (new : List (Tree ℕ)) (t : Tree ℕ) → HasRun t q a b → (q ≡ [] → (b ≡ suc a) × (length new ≡ 1)) → length (list (children (splice q a b new t))) ≡ length (list (children t))
unfolding splice children
roots_splice [] a b new (token w own) h k = refl
roots_splice [] a b new (node w cs) h k =
    let (x, y) = k refl in
    ap length (list_forest (take a (list cs) ++ (new ++ drop b (list cs)))) ∙ (length_cut (list cs) new a b h.ordered (run_here w cs a b h) ∙ omega (arith, run_here w cs a b h))
roots_splice (j ∷ q) a b new (token w own) h k = refl
roots_splice (j ∷ q) a b new (node w cs) h k = ap length (list_forest (modify j (λ c. splice q a b new c) (list cs))) ∙ length_modify (λ c. splice q a b new c) (list cs) j

-- one splice done keeps what holds
pub spliced_follows : (ts : List (Tree ℕ)) (w : World) (r : Run) (new : List Yield) (rec : Option ℕ) → Follows ts w → HasRun w.trees r.parent r.from r.to → (r.parent ≡ [] → (r.to ≡ suc r.from) × (length new ≡ 1))
    → All Worded (map (λ y. y.tree) new) → Follows ts (spliced r new rec w)
unfolding spliced
spliced_follows ts w r new rec f h k n = record {
  move = λ p. bind (f.move p) moves;
  keeps = more_keeps f.move moves f.keeps (adjust_keeps r.parent r.from r.to (length new));
  paths = rw f.paths (map-map (λ o. bind o moves) (λ s. f.move s.path) (table 0 0 ts));
  leads = leads;
  roots = roots_splice r.parent r.from r.to trees w.trees h (λ e. let x = k e in (x.0, long ∙ x.1)) ∙ f.roots;
  worded = worded_splice r.parent r.from r.to trees w.trees n f.worded;
}
  where
    trees : List (Tree ℕ)
    trees = map (λ y. y.tree) new

    long : length (map (λ y. y.tree) new) ≡ length new
    long = length-map new (λ y. y.tree)

    moves : Path → Option Path
    moves = adjust r.parent r.from r.to (length new)

    leads : (p q : Path) (x : Tree ℕ) → resolve p (top ts) ≡ some x → bind (f.move p) (adjust r.parent r.from r.to (length new)) ≡ some q
        → (y : Tree ℕ) × (resolve q (splice r.parent r.from r.to (map (λ y. y.tree) new) w.trees) ≡ some y) × (label y ≡ label x)
    leads p q x e g =
        bound (f.move p) _ g λ s a b.
        let (y, c, d) = f.leads p s x e a in
        let z = resolve_splice r.from r.to (map (λ y. y.tree) new) r.parent w.trees s y q h c (rw long b) in
        (splice_in r.from r.to (map (λ y. y.tree) new) (strip s r.parent) y, z, label_splice_in r.from r.to (map (λ y. y.tree) new) (strip s r.parent) y ∙ d)

module _ (ts : List (Tree ℕ)) (first : World) (h : Worded first.trees) where
  -- A step that is not refused keeps what holds.
  pub step_follows : (w next : World) (p : Planned) → Follows ts w → Right (table 0 0 ts) p.change → step (table 0 0 ts) first w p ≡ gives next → Follows ts next
  unfolding step
  step_follows w next p f c e =
      given (or_refuse 11 (place (table 0 0 ts) w p.change)) _ e λ r a e.
      given (refuse 12 (too_large (spliced r (map (yield first w) (news p.change)) (recorded_by (table 0 0 ts) p) w))) _ e λ u b e.
      let fits = place_fits ts w f p.change r (right_sits (table 0 0 ts) p.change c) (is_there 11 _ a) in
      rw (← gives_inj e) (spliced_follows ts w r (map (yield first w) (news p.change)) (recorded_by (table 0 0 ts) p) f fits.run
      (λ z. let x = fits.roots z in (x.0, length-map (news p.change) (yield first w) ∙ x.1)) (yields_worded first w (news p.change) h f.worded))

  pub steps_follow : (ps : List Planned) (w last : World) → Follows ts w → All (λ p. Right (table 0 0 ts) p.change) ps → steps (table 0 0 ts) first w ps ≡ gives last → Follows ts last
  unfolding steps
  steps_follow [] w last f c e = rw (← gives_inj e) f
  steps_follow (p ∷ ps) w last f c e = given (step (table 0 0 ts) first w p) _ e λ next a e. steps_follow ps next last (step_follows w next p f c.0 a) c.1 e

-- the same of a plan's performed changes, from the first step to the last
pub ran_follows : (a : Accepted) (p : Plan) (w : World) → a.table ≡ table 0 0 a.trees → All Worded a.trees → All (λ q. Right a.table q.change) (performed a p) → ran a p ≡ gives w → Follows a.trees w
unfolding ran at_first
ran_follows a p w q h c e = go a.table q (performed a p) c e
  where
    go : (T : Table) → T ≡ table 0 0 a.trees → (ps : List Planned) → All (λ q. Right T q.change) ps → steps T (begin a.trees T p.notes) (begin a.trees T p.notes) ps ≡ gives w → Follows a.trees w
    go T q ps =
        let first = begin a.trees (table 0 0 a.trees) p.notes in
        let f = follows_begin a.trees p.notes h in
        rw q (λ c e. steps_follow a.trees first f.worded ps first w f c e)
