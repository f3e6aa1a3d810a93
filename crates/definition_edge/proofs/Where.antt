-- Where a change goes in tree 0, by elements and by paths; and by both, when the region of one change takes another.
-- Assumes nothing.
use Rattle.std.specs.Prelude.{◌≡◌, Bool, cond, eqb}
use Rattle.std.proofs.Math.Path.{refl, sym, ap}
use Rattle.std.proofs.Common.{◌∙◌, arith, length-append, eqb-true}
use Rattle.std.proofs.Math.Bool.{true, false}
use mathlib.Core.List.{List, [], ◌∷◌, ◌++◌, Memᴰ, append-nil, append_assoc}
use Rattle.std.proofs.Math.Option.{Option, none, some, get_or, bind}
use Prim.Native.Nat.{ℕ, zero, suc, ◌<◌}
use Rattle.std.proofs.Math.ListN.{length}
use Rattle.orders.specs.Lists.{All}
use Rattle.orders.specs.ListLaws.{some_inj, none_some, bind_some}
use Rattle.orders.specs.Tree.{Tree, node, token, forest, label, resolve, Path, front, last}
use Rattle.orders.proofs.TreeLaws.{front_child, last_child, front_same, last_same, front_last, resolve_append}
use Rattle.definition.specs.Elements.{Table, table, row, is_node, node?, root?, parent, child}
use Rattle.definition.specs.Recording.{first_child, after, Change, insert, replace, delete, replace_with_many, replace_all}
use Rattle.definition.specs.EdgeRule.{parent_or_root, target_parent, of_root}
use Rattle.definition.specs.Rewriting.{Note}
use Rattle.definition.specs.Running.{World, begin, present, Run, from_to, empty_at, place}
use Rattle.definition.specs.Performed.{in_tree0}
use Rattle.definition_laws.specs.Answers.{bound}
use Rattle.definition_laws.specs.Spelling.{Worded, forest_worded}
use Rattle.definition_laws.specs.Kin.{IsParent, Kin, root, below, kin, path_leads, path_tells, not_root, root_is}
use Rattle.definition_laws.specs.Right.{Sits}
use Rattle.definition_laws.specs.Running.{worded_resolve}
use Rattle.definition_account.proofs.Run.{first_present}

-- ── Words ───────────────────────────────────────────────────────────────────────────────────────────────────

-- the children of its target parent that a change deletes, from the first to the one behind the last; for an insertion where it is
unfoldable pub span : Table → Change → ℕ × ℕ
span T (insert first_child x l) = (0, 0)
span T (insert after x l) = (suc (child T x), suc (child T x))
span T (replace x y) = (child T x, suc (child T x))
span T (delete x) = (child T x, suc (child T x))
span T (replace_with_many x l) = (child T x, suc (child T x))
span T (replace_all x y l) = (child T x, suc (child T y))

-- the change goes to the children a..b of the element of tree 0 at q, and replaces no root
pub record At (T : Table) (c : Change) (q : Path) (a b : ℕ) : Type 0 where
  pub within : target_parent T c < length T
  pub parent : (row T (target_parent T c)).path ≡ 0 ∷ q
  pub no_root : of_root T c ≡ false
  pub from : a ≡ (span T c).0
  pub to : b ≡ (span T c).1

-- what is told in tree 0
in_tree0_lem : (r s : Run) → in_tree0 r ≡ some s → (r.parent ≡ 0 ∷ s.parent) × (s.from ≡ r.from) × (s.to ≡ r.to)
unfolding in_tree0
in_tree0_lem r s e = go r.parent refl e
  where
    at : (t : ℕ) (p : Path) (b : Bool) → eqb t 0 ≡ b → r.parent ≡ t ∷ p → cond b (some (record { parent = p; from = r.from; to = r.to })) none ≡ some s → (r.parent ≡ 0 ∷ s.parent) × (s.from ≡ r.from) × (s.to ≡ r.to)
    at t p false z q e = none_some e
    at t p true z q e = rw (← some_inj e) (q ∙ ap (λ (i : ℕ). i ∷ p) (eqb-true t 0 z), refl, refl)

    go : (q : Path) → r.parent ≡ q → elim q as (λ q. Option Run) [ [] ↦ none | t ∷ p ↦ cond (eqb t 0) (some (record { parent = p; from = r.from; to = r.to })) none ] ≡ some s → (r.parent ≡ 0 ∷ s.parent) × (s.from ≡ r.from) × (s.to ≡ r.to)
    go [] q e = none_some e
    go (t ∷ p) q e = at t p (eqb t 0) refl q e

module _ (ts : List (Tree ℕ)) where
  abbrev T : Table
  T = table 0 0 ts

  -- ── Parents ──

  -- the parent of an element that is no root
  pub record Beside (x : ℕ) : Type 0 where
    pub within : parent_or_root T x < length T
    pub parent : parent T x ≡ some (parent_or_root T x)
    pub path : (row T x).path ≡ (row T (parent_or_root T x)).path ++ (child T x ∷ [])

  pub beside : (x : ℕ) → x < length T → root? T x ≡ false → Beside x
  unfolding parent_or_root
  beside x h e =
      let (m, k) = not_root ts x h e in
      let z : parent_or_root T x ≡ m = ap (λ o. get_or o x) k.parent in
      record { within = rw z k.within; parent = rw z k.parent; path = rw z k.path }

  -- ── Where a change goes ──

  module _ (notes : List Note) where
    abbrev first : World
    first = begin ts T notes

    here : (x : ℕ) (p : Path) → x < length T → present first x ≡ some p → p ≡ (row T x).path
    here x p h e = some_inj (sym e ∙ first_present ts notes x h)

    -- a run in the parent of x
    sides : (x : ℕ) (p : Path) → x < length T → root? T x ≡ false → present first x ≡ some p → (front p ≡ (row T (parent_or_root T x)).path) × (last p ≡ child T x)
    sides x p h e z =
        let k = beside x h e in
        let q = here x p h z ∙ k.path in
        (ap front q ∙ front_child (row T (parent_or_root T x)).path (child T x), ap last q ∙ last_child (row T (parent_or_root T x)).path (child T x))

    single : (c : Change) (x : ℕ) (r s : Run) → x < length T → root? T x ≡ false → target_parent T c ≡ parent_or_root T x → of_root T c ≡ false → span T c ≡ (child T x, suc (child T x))
        → bind (present first x) (λ p. some (from_to p p)) ≡ some r → in_tree0 r ≡ some s → At T c s.parent s.from s.to
    unfolding from_to
    single c x r s h e m o n z i =
        bound (present first x) _ z λ p g z.
        let (a, b) = sides x p h e g in
        let (q, u, v) = in_tree0_lem r s i in
        let w = some_inj z in
        record {
          within = rw m (beside x h e).within;
          parent = rw m (sym a ∙ (ap (λ (r : Run). r.parent) w ∙ q));
          no_root = o;
          from = rw n (u ∙ (ap (λ (r : Run). r.from) (sym w) ∙ b));
          to = rw n (v ∙ (ap (λ (r : Run). r.to) (sym w) ∙ ap suc b));
        }

    pub goes_at : (c : Change) (r s : Run) → Sits T c → place T first c ≡ some r → in_tree0 r ≡ some s → At T c s.parent s.from s.to
    unfolding place from_to empty_at target_parent of_root span front child
    goes_at (insert first_child x l) r s k z i =
        bound (present first x) _ z λ p g z.
        let (q, u, v) = in_tree0_lem r s i in
        let w = some_inj z in
        record {
          within = k.0;
          parent = sym (here x p k.0 g) ∙ (ap (λ (r : Run). r.parent) w ∙ q);
          no_root = refl;
          from = u ∙ ap (λ (r : Run). r.from) (sym w);
          to = v ∙ ap (λ (r : Run). r.to) (sym w);
        }
    goes_at (insert after x l) r s k z i =
        bound (present first x) _ z λ p g z.
        let (a, b) = sides x p k.0 k.1 g in
        let (q, u, v) = in_tree0_lem r s i in
        let w = some_inj z in
        record {
          within = (beside x k.0 k.1).within;
          parent = sym a ∙ (ap (λ (r : Run). r.parent) w ∙ q);
          no_root = refl;
          from = u ∙ (ap (λ (r : Run). r.from) (sym w) ∙ ap suc b);
          to = v ∙ (ap (λ (r : Run). r.to) (sym w) ∙ ap suc b);
        }
    goes_at (replace x y) r s k z i = go (root? T x) refl z
      where
        go : (b : Bool) → root? T x ≡ b → bind (cond b (some (row T x).path) (present first x)) (λ p. some (from_to p p)) ≡ some r → At T (replace x y) s.parent s.from s.to
        go true e z =
            bound (some (row T x).path) _ z λ p g z.
            let (q, u, v) = in_tree0_lem r s i in
            let is : p ≡ _ ∷ [] = sym (some_inj g) ∙ (root_is ts x k e).path in
            let top : [] ≡ 0 ∷ s.parent = sym (ap front is) ∙ (ap (λ (r : Run). r.parent) (some_inj z) ∙ q) in
            absurd (omega (arith, ap length top))
        go false e z = single (replace x y) x r s k e refl e refl z i
    goes_at (delete x) r s k z i = single (delete x) x r s k.0 k.1 refl refl refl z i
    goes_at (replace_with_many x l) r s k z i = single (replace_with_many x l) x r s k.0 k.1 refl refl refl z i
    goes_at (replace_all x y l) r s k z i =
        bound (present first x) _ z λ p g z. bound (present first y) _ z λ p' g' z.
        let (a, b) = sides x p k.0 k.2 g in
        let (q, u, v) = in_tree0_lem r s i in
        let w = some_inj z in
        record {
          within = (beside x k.0 k.2).within;
          parent = sym a ∙ (ap (λ (r : Run). r.parent) w ∙ q);
          no_root = refl;
          from = u ∙ (ap (λ (r : Run). r.from) (sym w) ∙ b);
          to = v ∙ (ap (λ (r : Run). r.to) (sym w) ∙ ap suc (ends p' g'));
        }
      where
        ends : (p' : Path) → present first y ≡ some p' → last p' ≡ child T y
        ends p' g' = ap last (here y p' k.1 g')

  -- ── Elements of a line, by paths ──

  -- whatever a path leads through stands in the line; fuel as much as the element's number
  pub line_through : (n e : ℕ) (p q : Path) → e < n → e < length T → 0 < length p → (row T e).path ≡ p ++ q → (z : ℕ) × (z < length T) × ((row T z).path ≡ p) × Memᴰ z (row T e).line
  line_through zero e p q l h k g = absurd (omega arith)
  line_through (suc n) e p [] l h k g = (e, h, g ∙ append-nil p, own (kin ts e h))
    where
      own : Kin ts e → Memᴰ e (row T e).line
      own (root r) = rw r.line (Memᴰ.head refl)
      own (below m i) = rw i.line (Memᴰ.head refl)
  line_through (suc n) e p (j ∷ q) l h k g = go (kin ts e h) (λ m i r. line_through n m p (front (j ∷ q)) (omega (arith, i.before)) i.within k r)
    where
      parted : (row T e).path ≡ (p ++ front (j ∷ q)) ++ (last (j ∷ q) ∷ [])
      parted = g ∙ (ap (λ r. p ++ r) (sym (front_last j q)) ∙ sym (append_assoc p (front (j ∷ q)) (last (j ∷ q) ∷ [])))

      go : Kin ts e → ((m : ℕ) → IsParent ts m e → (row T m).path ≡ p ++ front (j ∷ q) → (z : ℕ) × (z < length T) × ((row T z).path ≡ p) × Memᴰ z (row T m).line)
          → (z : ℕ) × (z < length T) × ((row T z).path ≡ p) × Memᴰ z (row T e).line
      go (root r) ih = absurd (omega (arith, ap length (sym r.path ∙ g), length-append p (j ∷ q), k))
      go (below m i) ih =
          let (z, a, b, c) = ih m i (front_same (row T m).path (p ++ front (j ∷ q)) (child T e) (last (j ∷ q)) (sym i.path ∙ parted)) in
          (z, a, b, rw i.line (Memᴰ.tail c))

  -- a child by its path
  pub child_by_path : (m z k : ℕ) (q : Path) → m < length T → z < length T → (row T m).path ≡ 0 ∷ q → (row T z).path ≡ 0 ∷ (q ++ (k ∷ [])) → (parent T z ≡ some m) × (child T z ≡ k)
  child_by_path m z k q h l g e = go (kin ts z l)
    where
      go : Kin ts z → (parent T z ≡ some m) × (child T z ≡ k)
      go (root r) = absurd (omega (arith, ap length (sym r.path ∙ e), length-append q (k ∷ [])))
      go (below n i) =
          let same = sym i.path ∙ e in
          let up : (row T n).path ≡ 0 ∷ q = front_same (row T n).path (0 ∷ q) (child T z) k same in
          let nm : n ≡ m = path_tells ts n m i.within h (up ∙ sym g) in
          (i.parent ∙ ap {B = Option ℕ} some nm, last_same (row T n).path (0 ∷ q) (child T z) k same)

  -- ── Nodes ──

  module _ (w : All Worded ts) where
    -- whatever has an element below it is a node
    pub node_over : (x e i : ℕ) (p : Path) → x < length T → e < length T → (row T e).path ≡ (row T x).path ++ (i ∷ p) → node? T x ≡ true
    unfolding node? bind resolve label is_node
    node_over x e i p h l g =
        let (t, a, b) = path_leads ts x 2147483648 h in
        let (u, c, d) = path_leads ts e 2147483648 l in
        let (v, f, j) = bind_some (resolve (row T x).path (node 2147483648 (forest ts))) _ (sym (resolve_append (row T x).path (i ∷ p) (node 2147483648 (forest ts))) ∙ (ap (λ r. resolve r (node 2147483648 (forest ts))) (sym g) ∙ c)) in
        go t b (worded_resolve (row T x).path (node 2147483648 (forest ts)) t (refl, forest_worded ts w) a) (ap (resolve (i ∷ p)) (some_inj (sym a ∙ f)) ∙ j)
      where
        go : (t : Tree ℕ) → label t ≡ (row T x).kind → Worded t → {u : Tree ℕ} → resolve (i ∷ p) t ≡ some u → is_node (row T x).kind ≡ true
        go (node k cs) b w j = rw (← b) w.0
        go (token k o) b w j = none_some j
