-- The key to demand 3: from what the one go makes of the splices S, a further splice makes what the one go makes of it and S, in the tree and in the paths.
-- Assumes nothing.
use Rattle.std.specs.Prelude.{◌≡◌, Bool, true, false, ◌≢◌, length, eqb}
use Rattle.std.proofs.Math.Path.{refl}
use Rattle.std.proofs.Common.{sym, ap, ◌∙◌, zero-add, eqb-true}
use mathlib.Core.List.{List, [], ◌∷◌}
use Rattle.std.proofs.Math.Option.{Option, none, some, map, bind}
use Prim.Native.Nat.{ℕ, zero, suc, ◌+◌, ◌≤◌}
use native.Mathlib.Omega.{arith}
use Rattle.std.proofs.Math.ListN.{get_elem?}
use Rattle.std.proofs.lemmas.Bool.{eqb-false}
use Rattle.orders.specs.Lists.{All, Pairs}
use Rattle.orders.specs.Tree.{Tree, Trees, node, token, nil, cons, list, forest, Path, resolve, adjust, shift, modify, splice, HasRun}
use Rattle.orders.specs.Splices.{Splice, under, at_root, below, left_to_right, new_children, one_go, one_go_all, inserted, deleted, start, AllApart}
use Rattle.orders.specs.ListLaws.{some_inj, bind_none}
use Rattle.orders.proofs.TreeLaws.{list_forest, run_child, run_token, adjust_root, adjust_shift, adjust_in, adjust_out}
use Rattle.orders.proofs.Left.{Ordered, OneLeft}
use Rattle.orders.proofs.Numbers.{new_number, number_inj, moved}
use Rattle.orders.proofs.Children.{Level, splice_children, modify_child}
use Rattle.orders.proofs.Parts.{below_in, below_out, below_root, at_root_root, at_root_child, Neat, root_ordered, root_apart, root_level, below_apart, below_neat, start_below, start_root}
use Rattle.orders.proofs.Paths.{one_go_path, Down, down, length_children, get_rewritten, rewritten_child}

-- ── The children rewritten ──────────────────────────────────────────────────────────────────────────────────

module _ {A : Type 0} where
  children_same : (S T : List (Splice A)) (n : ℕ) (cs : Trees A) → ((k : ℕ) → n ≤ k → below k T ≡ below k S) → one_go_all T n cs ≡ one_go_all S n cs
  unfolding one_go
  children_same S T n nil h = refl
  children_same S T n (cons c cs) h = rw (h n (omega arith), children_same S T (suc n) cs (λ k l. h k (omega arith)))

  -- only child i is rewritten otherwise
  children_modified : (S T : List (Splice A)) (g : Tree A → Tree A) (i : ℕ) (c : Tree A) → ((k : ℕ) → i ≢ k → below k T ≡ below k S) → one_go (below i T) c ≡ g (one_go (below i S) c)
      → (n k : ℕ) (cs : Trees A) → n + k ≡ i → get_elem? (list cs) k ≡ some c → one_go_all T n cs ≡ modify k g (one_go_all S n cs)
  unfolding one_go list modify
  children_modified S T g i c h r n k nil e q = refl
  children_modified S T g i c h r n zero (cons d cs) e q =
      let ni : n ≡ i = omega arith in
      rw (children_same S T (suc n) cs (λ k l. h k (λ z. omega arith)), ni, some_inj q, r)
  children_modified S T g i c h r n (suc k) (cons d cs) e q = rw (h n (λ z. omega arith), children_modified S T g i c h r (suc n) k cs (omega arith) q)

  pub apart_rest : (old : Tree A) (s : Splice A) (S : List (Splice A)) → AllApart old (s ∷ S) → AllApart old S
  apart_rest old s S h = record { fits = h.fits.1; apart = h.apart.1 }

-- ── A splice in the root ────────────────────────────────────────────────────────────────────────────────────

module _ {A : Type 0} (a : A) (cs : Trees A) (S : List (Splice A)) (s : Splice A) (h : AllApart (node a cs) (under [] s ∷ S)) where
  level : Level (length (list cs)) (under [] s ∷ at_root S)
  level = rw at_root_root at (root_level a cs (under [] s ∷ S) h)

  tree_root : splice [] (start S (under [] s)) (start S (under [] s) + deleted s) s.prepared (one_go S (node a cs)) ≡ one_go (under [] s ∷ S) (node a cs)
  unfolding splice one_go under deleted
  tree_root =
      rw (
        list_forest (new_children 0 (left_to_right (at_root S)) (one_go_all S 0 cs)),
        start_root s S,
        at_root_root s S,
        children_same S (under [] s ∷ S) 0 cs (λ k l. below_root k s S),
        (splice_children (length (list cs)) (at_root S) (one_go_all S 0 cs) (under [] s) level (length_children S 0 cs)).1,
      )

  run_root : HasRun (one_go S (node a cs)) [] (start S (under [] s)) (start S (under [] s) + deleted s)
  unfolding one_go resolve under deleted
  run_root = record {
    kind = a;
    children = forest (new_children 0 (left_to_right (at_root S)) (one_go_all S 0 cs));
    found = refl;
    ordered = omega arith;
    within = rw (list_forest (new_children 0 (left_to_right (at_root S)) (one_go_all S 0 cs)), start_root s S) (splice_children (length (list cs)) (at_root S) (one_go_all S 0 cs) (under [] s) level (length_children S 0 cs)).0;
  }

-- ── A splice below child i ──────────────────────────────────────────────────────────────────────────────────

module _ {A : Type 0} (i : ℕ) (P : Path) (a : A) (cs : Trees A) (S : List (Splice A)) (s : Splice A) (h : AllApart (node a cs) (under (i ∷ P) s ∷ S)) where
  child_level : Level (length (list cs)) (at_root S)
  child_level = root_level a cs S (apart_rest (node a cs) (under (i ∷ P) s) S h)

  child_at : (c : Tree A) × (get_elem? (list cs) i ≡ some c)
  unfolding under
  child_at = let r = run_child a cs i P s.from s.to h.fits.0 in (r.0, r.1)

  child_apart : AllApart child_at.0 (under P s ∷ below i S)
  child_apart = rw below_in at (below_apart a cs i child_at.0 (under (i ∷ P) s ∷ S) child_at.1 h)

  module _ (q : Path) (d : Down S i P q) where
    tree_child : splice d.rest (start (below i S) (under P s)) (start (below i S) (under P s) + deleted s) s.prepared (one_go (below i S) child_at.0) ≡ one_go (under P s ∷ below i S) child_at.0
        → splice q (start S (under (i ∷ P) s)) (start S (under (i ∷ P) s) + deleted s) s.prepared (one_go S (node a cs)) ≡ one_go (under (i ∷ P) s ∷ S) (node a cs)
    unfolding splice one_go
    tree_child ih =
        let f : Tree A → Tree A = λ c. splice d.rest (start (below i S) (under P s)) (start (below i S) (under P s) + deleted s) s.prepared c in
        rw (
          ← d.is,
          start_below i P s S,
          list_forest (new_children 0 (left_to_right (at_root S)) (one_go_all S 0 cs)),
          modify_child (length (list cs)) (at_root S) (one_go_all S 0 cs) child_level i d.j d.at (one_go (below i S) child_at.0) (get_rewritten S 0 cs i i child_at.0 (zero-add i) child_at.1) f,
          at_root_child i P s S,
          children_modified S (under (i ∷ P) s ∷ S) f i child_at.0 (λ k z. below_out k i P s S z) (rw (below_in i P s S) (sym ih)) 0 i cs (zero-add i) child_at.1,
        )

-- ── In the tree ─────────────────────────────────────────────────────────────────────────────────────────────

module _ {A : Type 0} where
  pub step_tree : (P : Path) (old : Tree A) (S : List (Splice A)) (s : Splice A) (q : Path) → AllApart old (under P s ∷ S) → one_go_path S P ≡ some q
      → splice q (start S (under P s)) (start S (under P s) + deleted s) s.prepared (one_go S old) ≡ one_go (under P s ∷ S) old
  unfolding one_go_path under
  step_tree [] (token a text) S s q h e = absurd (run_token a text [] _ _ h.fits.0)
  step_tree [] (node a cs) S s q h e = rw (← some_inj e) (tree_root a cs S s h)
  step_tree (i ∷ P) (token a text) S s q h e = absurd (run_token a text (i ∷ P) _ _ h.fits.0)
  step_tree (i ∷ P) (node a cs) S s q h e =
      let d = down S i P q e in
      tree_child i P a cs S s h q d (step_tree P (child_at i P a cs S s h).0 (below i S) s d.rest (child_apart i P a cs S s h) d.on)

  -- the run is really there
  pub step_run : (P : Path) (old : Tree A) (S : List (Splice A)) (s : Splice A) (q : Path) → AllApart old (under P s ∷ S) → one_go_path S P ≡ some q
      → HasRun (one_go S old) q (start S (under P s)) (start S (under P s) + deleted s)
  unfolding one_go_path under
  step_run [] (token a text) S s q h e = absurd (run_token a text [] _ _ h.fits.0)
  step_run [] (node a cs) S s q h e = rw (← some_inj e) (run_root a cs S s h)
  step_run (i ∷ P) (token a text) S s q h e = absurd (run_token a text (i ∷ P) _ _ h.fits.0)
  step_run (i ∷ P) (node a cs) S s q h e =
      let d = down S i P q e in
      let (c, g) = child_at i P a cs S s h in
      let r = step_run P c (below i S) s d.rest (child_apart i P a cs S s h) d.on in
      rw (← d.is, start_below i P s S) (record { kind = r.kind; children = r.children; found = rewritten_child a cs S (apart_rest (node a cs) (under (i ∷ P) s) S h) i c d.j d.rest g d.at ∙ r.found; ordered = r.ordered; within = r.within })

-- ── In the paths ────────────────────────────────────────────────────────────────────────────────────────────

-- a splice in the root moves the first step of a path
adjust_first : (a b n : ℕ) (o : Option ℕ) (G : Option Path) → bind (bind o (λ j. map (λ r. j ∷ r) G)) (adjust [] a b n) ≡ bind (bind o (shift a b n)) (λ j. map (λ r. j ∷ r) G)
unfolding bind
adjust_first a b n none G = refl
adjust_first a b n (some j) none = sym (bind_none (shift a b n j) (λ j. map {B = Path} (λ r. j ∷ r) none) (λ x. refl))
adjust_first a b n (some j) (some r) = adjust_shift a b n j r ∙ go (shift a b n j)
  where
    go : (o : Option ℕ) → map (λ k. k ∷ r) o ≡ bind o (λ k. some (k ∷ r))
    go none = refl
    go (some k) = refl

-- a splice below child j moves the rest of a path through that child, and no other
adjust_through : (j : ℕ) (q : Path) (a b n : ℕ) (G : Option Path) → bind (map (λ r. j ∷ r) G) (adjust (j ∷ q) a b n) ≡ map (λ r. j ∷ r) (bind G (adjust q a b n))
unfolding bind
adjust_through j q a b n none = refl
adjust_through j q a b n (some r) = adjust_in a b n j j q r refl

adjust_beside : (j k : ℕ) (q : Path) (a b n : ℕ) (G : Option Path) → k ≢ j → bind (map (λ r. k ∷ r) G) (adjust (j ∷ q) a b n) ≡ map (λ r. k ∷ r) G
unfolding bind
adjust_beside j k q a b n none e = refl
adjust_beside j k q a b n (some r) e = adjust_out a b n k j q r e

module _ {A : Type 0} where
  path_root : (S : List (Splice A)) (s : Splice A) → Neat (under [] s ∷ S) → (e : Path) → bind (one_go_path S e) (adjust [] (start S (under [] s)) (start S (under [] s) + deleted s) (inserted s)) ≡ one_go_path (under [] s ∷ S) e
  unfolding one_go_path bind under deleted inserted
  path_root S s h [] = adjust_root _ _ _ []
  path_root S s h (i ∷ e) =
      let o : All Ordered (under [] s ∷ at_root S) = rw at_root_root at (root_ordered (under [] s ∷ S) h) in
      let k : Pairs OneLeft (under [] s ∷ at_root S) = rw at_root_root at (root_apart (under [] s ∷ S) h) in
      rw (at_root_root s S, below_root i s S, start_root s S, moved (under [] s) (at_root S) o.0 o.1 k.1 k.0 i) (adjust_first _ _ _ (new_number (at_root S) i) (one_go_path (below i S) e))

  module _ (i : ℕ) (P : Path) (S : List (Splice A)) (s : Splice A) (h : Neat S) (q : Path) (d : Down S i P q) where
    path_child : ((e : Path) → bind (one_go_path (below i S) e) (adjust d.rest (start (below i S) (under P s)) (start (below i S) (under P s) + deleted s) (inserted s)) ≡ one_go_path (under P s ∷ below i S) e)
        → (e : Path) → bind (one_go_path S e) (adjust q (start S (under (i ∷ P) s)) (start S (under (i ∷ P) s) + deleted s) (inserted s)) ≡ one_go_path (under (i ∷ P) s ∷ S) e
    unfolding one_go_path bind
    path_child ih [] = adjust_root _ _ _ q
    path_child ih (k ∷ e) = rw (← d.is, start_below i P s S, at_root_child i P s S) (go (eqb k i) refl (new_number (at_root S) k) refl)
      where
        x : ℕ
        x = start (below i S) (under P s)

        go : (b : Bool) → eqb k i ≡ b → (o : Option ℕ) → new_number (at_root S) k ≡ o
            → bind (bind o (λ j. map (λ r. j ∷ r) (one_go_path (below k S) e))) (adjust (d.j ∷ d.rest) x (x + deleted s) (inserted s))
            ≡ bind o (λ j. map (λ r. j ∷ r) (one_go_path (below k (under (i ∷ P) s ∷ S)) e))
        go b u none v = refl
        go true u (some j) v =
            let ki : k ≡ i = eqb-true k i u in
            let jd : j ≡ d.j = some_inj (sym v ∙ ap (new_number (at_root S)) ki ∙ d.at) in
            rw (ki, jd, below_in i P s S, ← ih e) (adjust_through d.j d.rest x (x + deleted s) (inserted s) (one_go_path (below i S) e))
        go false u (some j) v =
            let ki : i ≢ k = λ z. eqb-false k i u (sym z) in
            let jd : j ≢ d.j = λ z. ki (number_inj (at_root S) (root_ordered S h) (root_apart S h) i k d.j d.at (rw z at v)) in
            rw (below_out k i P s S ki) (adjust_beside d.j j d.rest x (x + deleted s) (inserted s) (one_go_path (below k S) e) jd)

  pub step_path : (P : Path) (S : List (Splice A)) (s : Splice A) (q : Path) → Neat (under P s ∷ S) → one_go_path S P ≡ some q → (e : Path)
      → bind (one_go_path S e) (adjust q (start S (under P s)) (start S (under P s) + deleted s) (inserted s)) ≡ one_go_path (under P s ∷ S) e
  unfolding one_go_path
  step_path [] S s q h z e = rw (← some_inj z) (path_root S s h e)
  step_path (i ∷ P) S s q h z e =
      let d = down S i P q z in
      path_child i P S s (record { ordered = h.ordered.1; apart = h.apart.1 }) q d (λ e'. step_path P (below i S) s d.rest (rw below_in at (below_neat i (under (i ∷ P) s ∷ S) h)) d.on e') e
