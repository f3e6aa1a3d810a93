-- Tree 0 among all current trees: a splice in it is a splice of it alone, and a splice elsewhere leaves it and its paths.
-- Assumes nothing.
use Rattle.std.specs.Prelude.{◌≡◌, Bool, List, [], ◌∷◌, ◌++◌, map, ℕ, suc, eqb, take, drop}
use Rattle.std.proofs.Math.Path.{refl, sym, ap}
use Rattle.std.proofs.Common.{◌∙◌, arith}
use Rattle.std.proofs.Math.Bool.{true, false, cond}
use Rattle.std.proofs.lemmas.Simd.{map-map}
use Rattle.std.proofs.Math.Option
use Rattle.std.proofs.Math.Option.{Option, none, some, bind}
use Rattle.std.proofs.Math.ListN.{length}
use Rattle.std.proofs.lemmas.List.{length-map}
use Rattle.orders.specs.ListLaws.{some_inj, none_some, map_some, Zone, before, inside, after, zone?}
use Rattle.orders.specs.Tree.{Tree, Trees, node, cons, list, forest, Path, adjust, shift, modify, splice}
use Rattle.orders.proofs.TreeLaws.{forest_list, shift_before, shift_inside, shift_after, adjust_shift, adjust_in, adjust_out}
use Rattle.orders.specs.Splices.{Splice, State, inserted, perform_at}
use Rattle.definition.specs.Elements.{Table}
use Rattle.definition.specs.Running.{World, Run, Yield, spliced}
use Rattle.definition_laws.specs.Answers.{bound}
use Rattle.definition_laws.specs.Moves.{Keeps, adjust_keeps, more_keeps}

-- ── A splice ────────────────────────────────────────────────────────────────────────────────────────────────

module _ (a b : ℕ) (new : List (Tree ℕ)) (k : ℕ) (c : Tree ℕ) (cs : Trees ℕ) where
  pub splice_here : (q : Path) → splice (0 ∷ q) a b new (node k (cons c cs)) ≡ node k (cons (splice q a b new c) cs)
  unfolding splice list forest modify
  splice_here q = ap (λ l. node k (cons (splice q a b new c) l)) (forest_list cs)

  -- in another tree
  pub splice_other : (t : ℕ) (q : Path) → (ds : Trees ℕ) × (splice (suc t ∷ q) a b new (node k (cons c cs)) ≡ node k (cons c ds))
  unfolding splice list forest modify
  splice_other t q = (forest (modify t (λ d. splice q a b new d) (list cs)), refl)

-- at the level of the trees, behind tree 0
pub splice_behind : (t b : ℕ) (new : List (Tree ℕ)) (k : ℕ) (c : Tree ℕ) (cs : Trees ℕ) → (ds : Trees ℕ) × (splice [] (suc t) b new (node k (cons c cs)) ≡ node k (cons c ds))
unfolding splice list forest
splice_behind t b new k c cs = (forest (take t (list cs) ++ (new ++ drop b (c ∷ list cs))), refl)

-- ── Paths ───────────────────────────────────────────────────────────────────────────────────────────────────

module _ (a b n : ℕ) where
  -- below some tree, no path goes to another tree
  pub adjust_first : (i j : ℕ) (q e r : Path) → adjust (j ∷ q) a b n (i ∷ e) ≡ some r → (u : Path) × (r ≡ i ∷ u)
  unfolding adjust
  adjust_first i j q e r z = go (eqb i j) z
    where
      go : (c : Bool) → cond c (Option.map (λ r. i ∷ r) (adjust q a b n e)) (some (i ∷ e)) ≡ some r → (u : Path) × (r ≡ i ∷ u)
      go true z = let (u, x, y) = map_some (λ r. i ∷ r) (adjust q a b n e) z in (u, sym y)
      go false z = (e, sym (some_inj z))

-- one for one: the others keep their numbers
one_for_one : (a n i j : ℕ) → n ≡ 1 → shift a (suc a) n i ≡ some j → j ≡ i
one_for_one a n i j h e = go (zone? i a (suc a))
  where
    go : Zone i a (suc a) → j ≡ i
    go (before x) = some_inj (sym e ∙ shift_before a (suc a) n i x)
    go (inside x y) = none_some (sym (shift_inside a (suc a) n i x y) ∙ e)
    go (after x y) = omega (arith, some_inj (sym e ∙ shift_after a (suc a) n i x y))

-- so no path goes to another tree where a tree gives way to one
pub root_first : (a n i : ℕ) (e r : Path) → n ≡ 1 → adjust [] a (suc a) n (i ∷ e) ≡ some r → (u : Path) × (r ≡ i ∷ u)
root_first a n i e r h z =
    let (j, x, y) = map_some (λ (j : ℕ). j ∷ e) (shift a (suc a) n i) (sym (adjust_shift a (suc a) n i e) ∙ z) in
    (e, sym y ∙ ap (λ (j : ℕ). j ∷ e) (one_for_one a n i j h x))

-- ── The world ───────────────────────────────────────────────────────────────────────────────────────────────

-- Tree 0 of the world, and the present paths of its elements, are those of the state (told in tree 0 alone).
pub record Tree0 (T : Table) (w : World) (now : State ℕ) : Type 0 where
  pub kind : ℕ
  pub others : Trees ℕ
  pub trees : w.trees ≡ node kind (cons now.tree others)
  -- where each path of the batch's trees has moved
  pub move : Path → Option Path
  pub keeps : Keeps move
  pub paths : w.paths ≡ map (λ r. move r.path) T
  pub here : (e : Path) → move (0 ∷ e) ≡ Option.map (λ p. 0 ∷ p) (now.path e)
  -- what survives in another tree stays in that tree
  pub elsewhere : (t : ℕ) (e q : Path) → move (suc t ∷ e) ≡ some q → (u : Path) × (q ≡ suc t ∷ u)

bind_stay : (o : Option Path) → bind o (λ p. some p) ≡ o
unfolding bind
bind_stay none = refl
bind_stay (some p) = refl

module _ (T : Table) (w : World) (now : State ℕ) (h : Tree0 T w now) (new : List Yield) (rec : Option ℕ) where
  -- one splice, by what it does to tree 0, to its paths and to those of other trees
  moved : (r : Run) (next : State ℕ) (ds : Trees ℕ) → splice r.parent r.from r.to (map (λ y. y.tree) new) w.trees ≡ node h.kind (cons next.tree ds)
      → (f : Path → Option Path) → ((p : Path) → adjust r.parent r.from r.to (length new) (0 ∷ p) ≡ Option.map (λ q. 0 ∷ q) (f p)) → ((e : Path) → bind (now.path e) f ≡ next.path e)
      → ((t : ℕ) (e q : Path) → adjust r.parent r.from r.to (length new) (suc t ∷ e) ≡ some q → (u : Path) × (q ≡ suc t ∷ u))
      → Tree0 T (spliced r new rec w) next
  unfolding spliced bind
  moved r next ds t f g n o = record {
    kind = h.kind;
    others = ds;
    trees = t;
    move = λ p. bind (h.move p) moves;
    keeps = more_keeps h.move moves h.keeps (adjust_keeps r.parent r.from r.to (length new));
    paths = rw h.paths (map-map (λ o. bind o moves) (λ s. h.move s.path) T);
    here = λ e. ap (λ o. bind o moves) (h.here e) ∙ (below (now.path e) ∙ ap (λ o. Option.map (λ q. 0 ∷ q) o) (n e));
    elsewhere = λ t e q z. bound (h.move (suc t ∷ e)) _ z λ p x y. let (u, v) = h.elsewhere t e p x in o t u q (ap moves (sym v) ∙ y);
  }
    where
      moves : Path → Option Path
      moves = adjust r.parent r.from r.to (length new)

      below : (o : Option Path) → bind (Option.map (λ q. 0 ∷ q) o) moves ≡ Option.map (λ q. 0 ∷ q) (bind o f)
      below none = refl
      below (some p) = g p

  -- a splice in tree 0 is the splice of the state
  pub in_tree0_lem : (q : Path) (a b : ℕ) (s : Splice ℕ) → map (λ y. y.tree) new ≡ s.prepared
      → Tree0 T (spliced (record { parent = 0 ∷ q; from = a; to = b }) new rec w) (perform_at (record { parent = q; from = a; to = b }) s now)
  unfolding perform_at inserted
  in_tree0_lem q a b s e =
      moved (record { parent = 0 ∷ q; from = a; to = b }) (perform_at (record { parent = q; from = a; to = b }) s now) h.others
      (ap (λ t. splice (0 ∷ q) a b (map (λ y. y.tree) new) t) h.trees ∙ (splice_here a b (map (λ y. y.tree) new) h.kind now.tree h.others q ∙ ap (λ l. node h.kind (cons (splice q a b l now.tree) h.others)) e))
      (λ p. adjust q a b (length s.prepared) p) (λ p. adjust_in a b (length new) 0 0 q p refl ∙ ap (λ n. Option.map (λ r. 0 ∷ r) (adjust q a b n p)) long)
      (λ e. refl) (λ t e r z. adjust_first a b (length new) (suc t) 0 q e r z)
    where
      long : length new ≡ length s.prepared
      long = sym (length-map new (λ y. y.tree)) ∙ ap length e

  -- a splice in another tree leaves it
  pub in_other : (t : ℕ) (q : Path) (a b : ℕ) → Tree0 T (spliced (record { parent = suc t ∷ q; from = a; to = b }) new rec w) now
  in_other t q a b =
      let (ds, x) = splice_other a b (map (λ y. y.tree) new) h.kind now.tree h.others t q in
      moved (record { parent = suc t ∷ q; from = a; to = b }) now ds (ap (λ t'. splice (suc t ∷ q) a b (map (λ y. y.tree) new) t') h.trees ∙ x)
      (λ p. some p) (λ p. adjust_out a b (length new) 0 (suc t) q p (λ z. omega arith)) (λ e. bind_stay (now.path e)) (λ i e r z. adjust_first a b (length new) (suc i) (suc t) q e r z)

  -- and so does another tree's root that gives way to one
  pub other_root : (t : ℕ) → length new ≡ 1 → Tree0 T (spliced (record { parent = []; from = suc t; to = suc (suc t) }) new rec w) now
  other_root t n =
      let (ds, x) = splice_behind t (suc (suc t)) (map (λ y. y.tree) new) h.kind now.tree h.others in
      moved (record { parent = []; from = suc t; to = suc (suc t) }) now ds (ap (λ t'. splice [] (suc t) (suc (suc t)) (map (λ y. y.tree) new) t') h.trees ∙ x)
      (λ p. some p) (λ p. adjust_shift (suc t) (suc (suc t)) (length new) 0 p ∙ ap (λ o. Option.map (λ (j : ℕ). j ∷ p) o) (shift_before (suc t) (suc (suc t)) (length new) 0 (omega arith)))
      (λ e. bind_stay (now.path e)) (λ i e r z. root_first (suc t) (length new) (suc i) e r n z)
