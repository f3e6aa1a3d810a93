-- Where the walk wrote each old element: names carried along tell it.
-- Assumes nothing.
use Rattle.std.specs.Prelude.{◌≡◌, Bool, length, drop, eqb}
use Rattle.std.proofs.Math.Path.{refl, ap}
use Rattle.std.proofs.Common.{sym, ◌∙◌, zero-add}
use Rattle.std.proofs.Math.Bool.{true, false, cond}
use mathlib.Core.List.Permᴰ
use mathlib.Core.List.{List, [], ◌∷◌, ◌++◌, map, append_assoc, append-nil, reverse_aux, Permᴰ}
use Rattle.std.proofs.Math.Option
use Rattle.std.proofs.Math.Option.{Option, none, some, bind}
use Prim.Native.Nat.{ℕ, zero, suc, ◌+◌, ◌-◌}
use native.Mathlib.Omega.{arith}
use Rattle.std.proofs.Math.ListN.{get_elem?, length-map}
use Rattle.orders.specs.Lists.{more, pick, All}
use Rattle.orders.specs.Tree.{Tree, Trees, node, token, nil, cons, list, forest, label, Path, resolve, strip, adjust, Run, HasRun}
use Rattle.orders.specs.Splices.{Splice, inserted, deleted, left_of, under, from_root, from_child, at_root, below, insert_by_left, left_to_right, new_children, one_go, one_go_all, State, begin, perform_at, perform, performs, Enters, Apart, Fits, AllApart, splices_in, relabel, relabel_all, Named, named, named_all, nameless, unnamed, map_prepared, one_go_named, Finds}
use Rattle.orders.specs.ListLaws.{some_inj, none_some, map_some, map_append, map_take, map_drop, All-over, Pairs-over, All-mem, get_mem, any_over, total_over}
use Rattle.orders.proofs.TreeLaws.{Origin, kept, came, splice_origin, label_splice_in}
use Rattle.orders.proofs.Numbers.{child, holds, start_among, new_number}
use Rattle.orders.proofs.Paths.{one_go_path, resolve_one_go, label_one_go}
use Rattle.orders.proofs.Order.{apart_perm}
use Rattle.orders.proofs.Done.{After, ready, perform_at_lem, perform_after, apart_done, begin_after, reversed, performs_one_go}

-- ── Prepared lists changed throughout ───────────────────────────────────────────────────────────────────────

module _ {A B : Type 0} (g : Tree A → Tree B) where
  -- splices with each prepared tree changed by g
  changed : List (Splice A) → List (Splice B)
  changed S = map (map_prepared g) S

  insert_changed : (s : Splice A) (H : List (Splice A)) → insert_by_left (map_prepared g s) (changed H) ≡ changed (insert_by_left s H)
  unfolding insert_by_left changed left_of map_prepared
  insert_changed s [] = refl
  insert_changed s (t ∷ H) = go (left_of s t) (insert_changed s H)
    where
      go : (b : Bool) → insert_by_left (map_prepared g s) (changed H) ≡ changed (insert_by_left s H)
          → cond b (map_prepared g s ∷ map_prepared g t ∷ changed H) (map_prepared g t ∷ insert_by_left (map_prepared g s) (changed H)) ≡ changed (cond b (s ∷ t ∷ H) (t ∷ insert_by_left s H))
      go true e = refl
      go false e = rw e

  sort_changed : (S : List (Splice A)) → left_to_right (changed S) ≡ changed (left_to_right S)
  unfolding left_to_right changed
  sort_changed [] = refl
  sort_changed (s ∷ S) = rw (sort_changed S, insert_changed s (left_to_right S))

  pick_changed : (f : Splice A → Option (Splice A)) (f' : Splice B → Option (Splice B)) → ((s : Splice A) → f' (map_prepared g s) ≡ Option.map (map_prepared g) (f s)) → (S : List (Splice A)) → pick f' (changed S) ≡ changed (pick f S)
  unfolding pick changed
  pick_changed f f' h [] = refl
  pick_changed f f' h (s ∷ S) = rw (h s, pick_changed f f' h S) (go (f s))
    where
      go : (o : Option (Splice A)) → more (Option.map (map_prepared g) o) (changed (pick f S)) ≡ changed (more o (pick f S))
      go none = refl
      go (some t) = refl

  root_changed : (S : List (Splice A)) → at_root (changed S) ≡ changed (at_root S)
  unfolding at_root from_root map_prepared under
  root_changed S = pick_changed from_root from_root (λ s. go s s.parent) S
    where
      go : (s : Splice A) (p : Path) → from_root (map_prepared g (under p s)) ≡ Option.map (map_prepared g) (from_root (under p s))
      go s [] = refl
      go s (i ∷ p) = refl

  below_changed : (i : ℕ) (S : List (Splice A)) → below i (changed S) ≡ changed (below i S)
  unfolding below from_child map_prepared under
  below_changed i S = pick_changed (from_child i) (from_child i) (λ s. go s s.parent) S
    where
      on : (s : Splice A) (b : Bool) → cond b (some (map_prepared g s)) none ≡ Option.map (map_prepared g) (cond b (some s) none)
      on s true = refl
      on s false = refl

      go : (s : Splice A) (p : Path) → from_child i (map_prepared g (under p s)) ≡ Option.map (map_prepared g) (from_child i (under p s))
      go s [] = refl
      go s (j ∷ p) = on (under p s) (eqb j i)

  number_changed : (H : List (Splice A)) (i : ℕ) → new_number (changed H) i ≡ new_number H i
  unfolding new_number start_among changed holds left_of inserted deleted map_prepared
  number_changed H i =
      rw (
        any_over (map_prepared g) (holds i) (holds i) (λ s. refl) H,
        total_over (map_prepared g) (λ t. left_of t (child i)) inserted (λ t. left_of t (child i)) inserted (λ s. refl) (λ s. length-map s.prepared g) H,
        total_over (map_prepared g) (λ t. left_of t (child i)) deleted (λ t. left_of t (child i)) deleted (λ s. refl) (λ s. refl) H,
      )

  path_changed : (S : List (Splice A)) (e : Path) → one_go_path (changed S) e ≡ one_go_path S e
  unfolding one_go_path
  path_changed S [] = refl
  path_changed S (i ∷ e) = rw (root_changed S, number_changed (at_root S) i, below_changed i S, path_changed (below i S) e)

  children_changed : (n : ℕ) (H : List (Splice A)) (xs : List (Tree A)) → map g (new_children n H xs) ≡ new_children n (changed H) (map g xs)
  unfolding new_children changed map_prepared
  children_changed n [] xs = refl
  children_changed n (h ∷ H) xs = simp (map_append, children_changed h.to H (drop (h.to - n) xs), map_take, map_drop)

-- ── Without the names ───────────────────────────────────────────────────────────────────────────────────────

module _ {A B : Type 0} (f : A → B) where
  relabel_all_forest : (xs : List (Tree A)) → relabel_all f (forest xs) ≡ forest (map (relabel f) xs)
  unfolding relabel forest
  relabel_all_forest [] = refl
  relabel_all_forest (x ∷ xs) = rw (relabel_all_forest xs)

  mutual
    unfolding one_go relabel

    relabel_one_go : (S : List (Splice A)) (t : Tree A) → relabel f (one_go S t) ≡ one_go (changed (relabel f) S) (relabel f t)
    relabel_one_go S (node a cs) =
        let H : List (Splice A) = left_to_right (at_root S) in
        rw (relabel_all_forest (new_children 0 H (one_go_all S 0 cs)), children_changed (relabel f) 0 H (one_go_all S 0 cs), root_changed (relabel f) S, sort_changed (relabel f) (at_root S), relabel_one_goes S 0 cs)
    relabel_one_go S (token a text) = refl

    relabel_one_goes : (S : List (Splice A)) (n : ℕ) (cs : Trees A) → map (relabel f) (one_go_all S n cs) ≡ one_go_all (changed (relabel f) S) n (relabel_all f cs)
    relabel_one_goes S n nil = refl
    relabel_one_goes S n (cons c cs) = rw (relabel_one_go (below n S) c, relabel_one_goes S (suc n) cs, below_changed (relabel f) n S)

module _ {A : Type 0} where
  mutual
    unfolding unnamed nameless relabel

    unnamed_nameless : (t : Tree A) → unnamed (nameless t) ≡ t
    unnamed_nameless (node a cs) = ap (node a) (unnamed_namelesses cs)
    unnamed_nameless (token a text) = refl

    unnamed_namelesses : (cs : Trees A) → relabel_all (λ (x : Named A). x.0) (relabel_all (λ (a : A). (a, none)) cs) ≡ cs
    unnamed_namelesses nil = refl
    unnamed_namelesses (cons c cs) = rw (unnamed_nameless c, unnamed_namelesses cs)

  mutual
    unfolding unnamed relabel named

    unnamed_named : (p : Path) (t : Tree A) → unnamed (named p t) ≡ t
    unnamed_named p (node a cs) = ap (node a) (unnamed_nameds p 0 cs)
    unnamed_named p (token a text) = refl

    unnamed_nameds : (p : Path) (n : ℕ) (cs : Trees A) → relabel_all (λ (x : Named A). x.0) (named_all p n cs) ≡ cs
    unnamed_nameds p n nil = refl
    unnamed_nameds p n (cons c cs) = rw (unnamed_named (p ++ (n ∷ [])) c, unnamed_nameds p (suc n) cs)

  unnamed_all : (xs : List (Tree A)) → map unnamed (map nameless xs) ≡ xs
  unnamed_all [] = refl
  unnamed_all (x ∷ xs) = rw (unnamed_nameless x, unnamed_all xs)

  unnamed_changed : (S : List (Splice A)) → changed unnamed (changed nameless S) ≡ S
  unfolding changed map_prepared
  unnamed_changed [] = refl
  unnamed_changed (s ∷ S) = rw (unnamed_all s.prepared, unnamed_changed S)

  -- the walk that carries names is the walk
  pub unnamed_one_go : (S : List (Splice A)) (old : Tree A) → unnamed (one_go_named S old) ≡ one_go S old
  unfolding one_go_named unnamed changed
  unnamed_one_go S old = relabel_one_go (λ x. x.0) (changed nameless S) (named [] old) ∙ rw (unnamed_changed S, unnamed_named [] old)

-- ── Where the names are ─────────────────────────────────────────────────────────────────────────────────────

module _ {A : Type 0} where
  get_named : (p : Path) (n : ℕ) (cs : Trees A) (k i : ℕ) → n + k ≡ i → get_elem? (list (named_all p n cs)) k ≡ Option.map (named (p ++ (i ∷ []))) (get_elem? (list cs) k)
  unfolding named list
  get_named p n nil k i e = refl
  get_named p n (cons c cs) zero i e = let z : n ≡ i = omega arith in rw z
  get_named p n (cons c cs) (suc k) i e = get_named p (suc n) cs k i (omega arith)

  length_named : (p : Path) (n : ℕ) (cs : Trees A) → length (list (named_all p n cs)) ≡ length (list cs)
  unfolding named list
  length_named p n nil = refl
  length_named p n (cons c cs) = ap suc (length_named p (suc n) cs)

  resolve_named : (e p : Path) (t : Tree A) → resolve e (named p t) ≡ Option.map (named (p ++ e)) (resolve e t)
  unfolding resolve named bind
  resolve_named [] p t = rw (append-nil p)
  resolve_named (i ∷ e) p (token a text) = refl
  resolve_named (i ∷ e) p (node a cs) = rw (get_named p 0 cs i i (zero-add i)) (go (get_elem? (list cs) i) (λ c. resolve_named e (p ++ (i ∷ [])) c))
    where
      go : (o : Option (Tree A)) → ((c : Tree A) → resolve e (named (p ++ (i ∷ [])) c) ≡ Option.map (named ((p ++ (i ∷ [])) ++ e)) (resolve e c))
          → bind (Option.map (named (p ++ (i ∷ []))) o) (λ c. resolve e c) ≡ Option.map (named (p ++ (i ∷ e))) (bind o (λ c. resolve e c))
      go none r = refl
      go (some c) r = r c ∙ rw (append_assoc p (i ∷ []) e)

  label_named : (p : Path) (t : Tree A) → label (named p t) ≡ (label t, some p)
  unfolding label named
  label_named p (node a cs) = refl
  label_named p (token a text) = refl

  fits_named : (old : Tree A) (s : Splice A) → Fits old s → Fits (named [] old) (map_prepared nameless s)
  unfolding map_prepared named
  fits_named old s f = record {
    kind = (f.kind, some s.parent);
    children = named_all s.parent 0 f.children;
    found = resolve_named s.parent [] old ∙ rw f.found;
    ordered = f.ordered;
    within = rw (length_named s.parent 0 f.children) f.within;
  }

  enters_changed : (s : Splice A) (e : Path) → Enters (map_prepared nameless s) e → Enters s e
  unfolding map_prepared
  enters_changed s e h = record { child = h.child; rest = h.rest; leads = h.leads; low = h.low; high = h.high }

  apart_changed : (s t : Splice A) → Apart s t → Apart (map_prepared nameless s) (map_prepared nameless t)
  unfolding map_prepared
  apart_changed s t h = record { numbers = h.numbers; kept = λ z. h.kept (enters_changed s t.parent z); kept' = λ z. h.kept' (enters_changed t s.parent z); clear = h.clear }

  named_apart : (old : Tree A) (S : List (Splice A)) → AllApart old S → AllApart (named [] old) (changed nameless S)
  unfolding changed
  named_apart old S h = record {
    fits = All-over (map_prepared nameless) (Fits old) (Fits (named [] old)) (fits_named old) S h.fits;
    apart = Pairs-over (map_prepared nameless) Apart Apart apart_changed S h.apart;
  }

  -- the path of an old element finds it
  pub finds : (old t : Tree A) (S : List (Splice A)) (e q : Path) → AllApart old S → resolve e old ≡ some t → one_go_path S e ≡ some q → Finds S old e q
  unfolding one_go_named changed
  finds old t S e q h f g = record {
    element = one_go (splices_in e (changed nameless S)) (named e t);
    there = resolve_one_go e (named [] old) (named e t) (changed nameless S) q (named_apart old S h) (resolve_named e [] old ∙ rw f) (path_changed nameless S e ∙ g);
    name = rw (label_one_go (splices_in e (changed nameless S)) (named e t), label_named e t);
  }

-- ── No element elsewhere ────────────────────────────────────────────────────────────────────────────────────

module _ {A B : Type 0} (f : A → B) where
  get_relabel : (cs : Trees A) (k : ℕ) → get_elem? (list (relabel_all f cs)) k ≡ Option.map (relabel f) (get_elem? (list cs) k)
  unfolding relabel list
  get_relabel nil k = refl
  get_relabel (cons c cs) zero = refl
  get_relabel (cons c cs) (suc k) = get_relabel cs k

  resolve_relabel : (e : Path) (t : Tree A) → resolve e (relabel f t) ≡ Option.map (relabel f) (resolve e t)
  unfolding resolve relabel bind
  resolve_relabel [] t = refl
  resolve_relabel (i ∷ e) (token a text) = refl
  resolve_relabel (i ∷ e) (node a cs) = rw (get_relabel cs i) (go (get_elem? (list cs) i) (resolve_relabel e))
    where
      go : (o : Option (Tree A)) → ((c : Tree A) → resolve e (relabel f c) ≡ Option.map (relabel f) (resolve e c)) → bind (Option.map (relabel f) o) (λ c. resolve e c) ≡ Option.map (relabel f) (bind o (λ c. resolve e c))
      go none r = refl
      go (some c) r = r c

  label_relabel : (t : Tree A) → label (relabel f t) ≡ f (label t)
  unfolding label relabel
  label_relabel (node a cs) = refl
  label_relabel (token a text) = refl

-- every element of the tree has a label of which N holds
Everywhere : {A : Type 0} → (A → Type 0) → Tree A → Type 0
Everywhere {A} N t = (e : Path) (u : Tree A) → resolve e t ≡ some u → N (label u)

module _ {A : Type 0} (N : A → Type 0) (old : Tree A) where
  -- an element of the present tree: an old one, at its present path, or one of a prepared list
  data From (now : State A) (q : Path) (v : Tree A) : Type 0 where
    before : (e : Path) (u : Tree A) → resolve e old ≡ some u → now.path e ≡ some q → label v ≡ label u → From now q v
    prepared : N (label v) → From now q v

  AllFrom : State A → Type 0
  AllFrom now = (q : Path) (v : Tree A) → resolve q now.tree ≡ some v → From now q v

  perform_from : (r : Run) (s : Splice A) (now : State A) → HasRun now.tree r.parent r.from r.to → All (Everywhere N) s.prepared → AllFrom now → AllFrom (perform_at r s now)
  unfolding AllFrom Everywhere perform_at inserted bind
  perform_from r s now h n f q v e = at (splice_origin r.from r.to s.prepared r.parent now.tree q v h e)
    where
      moved : (p : Path) (u : Tree A) → adjust r.parent r.from r.to (length s.prepared) p ≡ some q → label v ≡ label u → From now p u → From (perform_at r s now) q v
      moved p u m l (before d w y z x) = before d w y (rw z m) (l ∙ x)
      moved p u m l (prepared x) = prepared (rw l x)

      at : Origin r.from r.to s.prepared r.parent now.tree q v → From (perform_at r s now) q v
      at (kept p u y m z) = moved p u m (rw z (label_splice_in r.from r.to s.prepared (strip p r.parent) u)) (f p u y)
      at (came i c p y m z) = prepared (All-mem (Everywhere N) s.prepared c n (get_mem s.prepared i c y) p v z)

  performs_from : (S D : List (Splice A)) (now : State A) → AllApart old (reverse_aux S D) → After old D now → All (λ s. All (Everywhere N) s.prepared) S → AllFrom now → AllFrom (performs S now)
  unfolding performs
  performs_from [] D now h k n f = f
  performs_from (s ∷ S) D now h k n f =
      let g = apart_done old S (s ∷ D) h in
      let r = ready old D s now g k in
      performs_from S (s ∷ D) (perform s now) h (perform_after old D s now g k) n.1 (rw (perform_at_lem s now _ r.run) (perform_from _ s now r.has n.0 f))

module _ {A : Type 0} where
  Unnamed : Named A → Type 0
  Unnamed x = x.1 ≡ none

  nameless_everywhere : (xs : List (Tree A)) → All (Everywhere Unnamed) (map nameless xs)
  unfolding Everywhere Unnamed nameless
  nameless_everywhere [] = tt
  nameless_everywhere (x ∷ xs) = (λ e u f. go u (map_some (relabel bare) (resolve e x) (sym (resolve_relabel bare e x) ∙ f)), nameless_everywhere xs)
    where
      bare : A → Named A
      bare a = (a, none)

      go : (u : Tree (Named A)) {o : Option (Tree A)} → (w : Tree A) × (o ≡ some w) × (relabel bare w ≡ u) → (label u).1 ≡ none
      go u r = rw (← r.2, label_relabel bare r.0)

  all_nameless : (S : List (Splice A)) → All (λ s. All (Everywhere Unnamed) s.prepared) (changed nameless S)
  unfolding changed map_prepared
  all_nameless [] = tt
  all_nameless (s ∷ S) = (nameless_everywhere s.prepared, all_nameless S)

  name_at : (old : Tree A) (e : Path) (u : Tree (Named A)) → resolve e (named [] old) ≡ some u → (label u).1 ≡ some e
  name_at old e u f = let r = map_some (named e) (resolve e old) (sym (resolve_named e [] old) ∙ f) in rw (← r.2, label_named e r.0)

  -- the walk wrote the old element of path e nowhere but where that path leads
  pub finds_only : (old : Tree A) (S : List (Splice A)) (e q : Path) → AllApart old S → Finds S old e q → one_go_path S e ≡ some q
  unfolding one_go_named changed begin AllFrom Unnamed
  finds_only old S e q h f = go (all q f.element (rw k.0 f.there))
    where
      T : List (Splice (Named A))
      T = changed nameless S

      O : Tree (Named A)
      O = named [] old

      now : State (Named A)
      now = performs T (begin O)

      k : (now.tree ≡ one_go T O) × ((e : Path) → now.path e ≡ one_go_path T e) × Permᴰ T now.done
      k = performs_one_go O T T (named_apart old S h) (Permᴰ.refl T)

      all : AllFrom Unnamed O now
      all = performs_from Unnamed O T [] (begin O) (apart_perm O T (reverse_aux T []) (Permᴰ.symm (reversed T)) (named_apart old S h)) (begin_after O) (all_nameless S) (λ p v g. before p v g refl refl)

      go : From Unnamed O now q f.element → one_go_path S e ≡ some q
      go (before d w y z x) =
          let e≡ : e ≡ d = some_inj (sym f.name ∙ (ap (λ (n : Named A). n.1) x ∙ name_at old d w y)) in
          rw e≡ (sym (path_changed nameless S d) ∙ (sym (k.1 d) ∙ z))
      go (prepared x) = none_some (sym x ∙ f.name)
