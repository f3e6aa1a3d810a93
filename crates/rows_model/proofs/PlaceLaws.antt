-- The rows of a tree around an element, and around a run of its children, before and after a splice.
-- Assumes nothing.
use Rattle.std.specs.Prelude.{◌≡◌, cond, ◌⊎◌, ℕ, zero, suc, ◌+◌, ◌-◌, ◌≤◌, ◌<◌, take, ltb}
use Rattle.std.proofs.Math.Path.{refl, sym, ap}
use Rattle.std.proofs.Common.{◌∙◌, inl, inr, arith, zero-add, take-append-drop, lt-ltb, le-ltb, take_at, take-add}
use mathlib.Core.List.{List, [], ◌∷◌, ◌++◌, append_assoc, append-nil}
use Rattle.std.proofs.Math.Option.{Option, none, some, map, bind}
use Rattle.std.proofs.Math.ListN.{length, drop, get_elem?, length-append, length-drop}
use Rattle.std.proofs.Math.Seq.{drop_at, length-take-le}
use Rattle.orders.specs.Tree.{Tree, Trees, node, token, list, forest, Path, resolve, modify, splice, HasRun}
use Rattle.orders.specs.ListLaws.{some_inj, none_some, bind_some, lt_or_le, lt_get, get_none, get_right, length_cut, length_modify, modify_right, parts, part_out}
use Rattle.orders.proofs.TreeLaws.{list_forest, resolve_child, resolve_append}
use Rattle.rows_model.specs.Row.{Row, nod, row_of, rows_of, rows_in, rows_all, skip, bytes}
use Rattle.rows_model.specs.Place.{size, size_all, or_zero, place, run_of, rows_after, child_row, follow, between, subtree, remeasure, splice_rows}
use Rattle.rows_model.proofs.RowLaws.{rows_in_list, rows_node, rows_append, size_all_append, rows_get, rows_modify, size_pos, bytes_append, skip_none, skip_tree, skip_all}

-- ── Places below a child ────────────────────────────────────────────────────────────────────────────────────

pub place_at : (k : ℕ) (cs : Trees ℕ) (i : ℕ) (p : Path) (c : Tree ℕ) → get_elem? (list cs) i ≡ some c → place (i ∷ p) (node k cs) ≡ suc (size_all (take i (list cs)) + place p c)
place_at k cs i p c g = rw g

-- the same where the children are told as a list
pub place_forest : (k : ℕ) (ts : List (Tree ℕ)) (i : ℕ) (p : Path) (c : Tree ℕ) → get_elem? ts i ≡ some c → place (i ∷ p) (node k (forest ts)) ≡ suc (size_all (take i ts) + place p c)
place_forest k ts i p c g = rw (list_forest ts, g)

-- the place of a child, and of the end of the children
pub place_child : (k : ℕ) (cs : Trees ℕ) (i : ℕ) → place (i ∷ []) (node k cs) ≡ suc (size_all (take i (list cs)))
place_child k cs i = ap suc (go (get_elem? (list cs) i))
  where
    go : (o : Option (Tree ℕ)) → size_all (take i (list cs)) + or_zero (place []) o ≡ size_all (take i (list cs))
    go none = omega arith
    go (some c) = omega arith

-- ── The rows around an element ──────────────────────────────────────────────────────────────────────────────

-- the rows of t, parted at the element u of a path: before it, its own, behind it. A splice there changes the middle part alone
pub record Parted (q : Path) (t u : Tree ℕ) : Type 0 where
  pub before : List Row
  pub behind : List Row
  pub at : length before ≡ place q t
  pub down : (e : Path) → place (q ++ e) t ≡ place q t + place e u
  pub was : rows_of t ≡ before ++ (rows_of u ++ behind)
  pub is : (a b : ℕ) (new : List (Tree ℕ)) → rows_of (splice q a b new t) ≡ before ++ (rows_of (splice [] a b new u) ++ behind)

pub parted : (q : Path) (t u : Tree ℕ) → resolve q t ≡ some u → Parted q t u
unfolding resolve splice
parted [] t u f = record {
  before = [];
  behind = [];
  at = refl;
  down = λ e. rw (some_inj f) (sym (zero-add (place e u)));
  was = rw (some_inj f) (sym (append-nil (rows_of u)));
  is = λ a b new. rw (some_inj f) (sym (append-nil (rows_of (splice [] a b new u))));
}
parted (i ∷ q) (token w own) u f = none_some f
parted (i ∷ q) (node w cs) u f =
    let (c, g, z) = resolve_child w cs i q u f in
    deeper c g (parted q c u z)
  where
    head : List Row
    head = nod w (length (list cs)) ∷ rows_all (take i (list cs))

    deeper : (c : Tree ℕ) → get_elem? (list cs) i ≡ some c → Parted q c u → Parted (i ∷ q) (node w cs) u
    deeper c g p = record {
      before = head ++ p.before;
      behind = p.behind ++ rows_all (drop (suc i) (list cs));
      at = length-append head p.before ∙ rw (g, p.at) (omega arith);
      down = λ e. rw g (omega (arith, p.down e));
      was = rw (rows_in_list cs, rows_get (list cs) i c g, p.was) (simp append_assoc);
      is = λ a b new. rw (rows_node w (modify i (λ c. splice q a b new c) (list cs)), length_modify (λ c. splice q a b new c) (list cs) i, rows_modify (λ c. splice q a b new c) (list cs) i c g, p.is a b new) (simp append_assoc);
    }

module _ (q : Path) (t u : Tree ℕ) (f : resolve q t ≡ some u) where
  pub place_down : (e : Path) → place (q ++ e) t ≡ place q t + place e u
  place_down = (parted q t u f).down

  from_place : (p : Parted q t u) → drop (place q t) (rows_of t) ≡ rows_of u ++ p.behind
  from_place p = ap (drop (place q t)) p.was ∙ drop_at p.before (rows_of u ++ p.behind) (place q t) p.at

  -- skipping one element from the place of u passes just its rows
  pub skip_at : skip 1 (drop (place q t) (rows_of t)) ≡ size u
  skip_at = let p = parted q t u f in ap (skip 1) (from_place p) ∙ (skip_tree u 0 p.behind ∙ omega (arith, skip_none p.behind))

  pub after_at : rows_after (rows_of t) (place q t) 1 ≡ place q t + size u
  unfolding rows_after
  after_at = rw skip_at

  -- the rows of an element with all that is below it are one run of the tree's rows
  pub subtree_at : subtree (rows_of t) (place q t) ≡ rows_of u
  unfolding subtree
  subtree_at = let p = parted q t u f in rw (skip_at, from_place p) (take_at (rows_of u) p.behind (size u) refl)

  -- which lies within them
  pub place_bound : place q t + size u ≤ size t
  place_bound =
      let p = parted q t u f in
      let e : size t ≡ length p.before + (size u + length p.behind) = ap length p.was ∙ simp length-append in
      omega (arith, p.at)

  pub place_lt : place q t < size t
  place_lt = omega (arith, place_bound, size_pos u)

  -- and begins with its own row
  pub row_at_lem : get_elem? (rows_of t) (place q t) ≡ some (row_of u)
  row_at_lem = let p = parted q t u f in ap (λ rs. get_elem? rs (place q t)) p.was ∙ (get_right p.before (rows_of u ++ p.behind) (place q t) 0 (omega (arith, p.at)) ∙ first u p.behind)
    where
      first : (v : Tree ℕ) (r : List Row) → get_elem? (rows_of v ++ r) 0 ≡ some (row_of v)
      first (node k cs) r = refl
      first (token k x) r = refl

-- ── Children ────────────────────────────────────────────────────────────────────────────────────────────────

pub size_all_suc : (ts : List (Tree ℕ)) (i : ℕ) (c : Tree ℕ) → get_elem? ts i ≡ some c → size_all (take (suc i) ts) ≡ size_all (take i ts) + size c
size_all_suc [] i c g = none_some g
size_all_suc (t ∷ ts) zero c g = rw (length-append (rows_of t) [], some_inj g) (omega arith)
size_all_suc (t ∷ ts) (suc i) c g = rw (length-append (rows_of t) (rows_all (take (suc i) ts)), length-append (rows_of t) (rows_all (take i ts))) (omega (arith, size_all_suc ts i c g))

pub size_all_mono : (ts : List (Tree ℕ)) (i j : ℕ) → i ≤ j → size_all (take i ts) ≤ size_all (take j ts)
size_all_mono ts zero j h = omega arith
size_all_mono ts (suc i) zero h = absurd (omega arith)
size_all_mono [] (suc i) (suc j) h = omega arith
size_all_mono (t ∷ ts) (suc i) (suc j) h = rw (length-append (rows_of t) (rows_all (take i ts)), length-append (rows_of t) (rows_all (take j ts))) (omega (arith, size_all_mono ts i j (omega arith)))

-- a child's parent is a node
pub parent_of : (q : Path) (i : ℕ) (t c : Tree ℕ) → resolve (q ++ (i ∷ [])) t ≡ some c → (k : ℕ) × (cs : Trees ℕ) × (resolve q t ≡ some (node k cs)) × (get_elem? (list cs) i ≡ some c)
unfolding resolve
parent_of q i t c f =
    let (u, g, z) = bind_some (resolve q t) (λ u. resolve (i ∷ []) u) (sym (resolve_append q (i ∷ []) t) ∙ f) in
    go u g z
  where
    go : (u : Tree ℕ) → resolve q t ≡ some u → resolve (i ∷ []) u ≡ some c → (k : ℕ) × (cs : Trees ℕ) × (resolve q t ≡ some (node k cs)) × (get_elem? (list cs) i ≡ some c)
    go (token k x) g z = none_some z
    go (node k cs) g z =
        let (d, y, w) = resolve_child k cs i [] c z in
        (k, cs, g, y ∙ w)

module _ (q : Path) (t : Tree ℕ) (k : ℕ) (cs : Trees ℕ) (f : resolve q t ≡ some (node k cs)) where
  -- the place of a child, and of the end of the children, by counting
  pub child_at : (i : ℕ) → i ≤ length (list cs) → place (q ++ (i ∷ [])) t ≡ child_row (rows_of t) (place q t) i
  unfolding child_row rows_after
  child_at i h =
      let p = parted q t (node k cs) f in
      let l : rows_in cs ≡ rows_all (take i (list cs)) ++ rows_all (drop i (list cs)) = rows_in_list cs ∙ (ap rows_all (sym (take-append-drop i (list cs))) ∙ rows_append (take i (list cs)) (drop i (list cs))) in
      let w : rows_of t ≡ (p.before ++ (nod k (length (list cs)) ∷ [])) ++ (rows_all (take i (list cs)) ++ (rows_all (drop i (list cs)) ++ p.behind)) = p.was ∙ rw l (simp append_assoc) in
      let d : drop (suc (place q t)) (rows_of t) ≡ rows_all (take i (list cs)) ++ (rows_all (drop i (list cs)) ++ p.behind) =
      ap (drop (suc (place q t))) w ∙ drop_at (p.before ++ (nod k (length (list cs)) ∷ [])) _ (suc (place q t)) (simp length-append (omega (arith, p.at))) in
      p.down (i ∷ []) ∙ rw (place_child k cs i, d, skip_all (take i (list cs)) i (rows_all (drop i (list cs)) ++ p.behind) (length-take-le i (list cs) h)) (omega arith)

  -- the next child stands behind all rows of this one
  pub place_next : (i : ℕ) (c : Tree ℕ) → get_elem? (list cs) i ≡ some c → place (q ++ (suc i ∷ [])) t ≡ place (q ++ (i ∷ [])) t + size c
  place_next i c g = rw (place_down q t (node k cs) f (suc i ∷ []), place_down q t (node k cs) f (i ∷ []), place_child k cs (suc i), place_child k cs i) (omega (arith, size_all_suc (list cs) i c g))

  -- the first child stands right behind its parent
  pub place_first : place (q ++ (0 ∷ [])) t ≡ suc (place q t)
  place_first = place_down q t (node k cs) f (0 ∷ []) ∙ rw (place_child k cs 0) (omega arith)

-- the end of a child's rows is where the next child stands
pub after_child : (q : Path) (i : ℕ) (t c : Tree ℕ) → resolve (q ++ (i ∷ [])) t ≡ some c → rows_after (rows_of t) (place (q ++ (i ∷ [])) t) 1 ≡ place (q ++ (suc i ∷ [])) t
after_child q i t c f =
    let (k, cs, g, y) = parent_of q i t c f in
    after_at (q ++ (i ∷ [])) t c f ∙ sym (place_next q t k cs g i c y)

-- no element stands where the root does
pub place_pos : (i : ℕ) (p : Path) (t u : Tree ℕ) → resolve (i ∷ p) t ≡ some u → 0 < place (i ∷ p) t
unfolding resolve
place_pos i p (token k x) u f = none_some f
place_pos i p (node k cs) u f = omega arith

-- ── A path followed ─────────────────────────────────────────────────────────────────────────────────────────

-- followed in the rows from the place of u on, a path leads where it leads in u
pub follow_at : (p q : Path) (t u : Tree ℕ) → resolve q t ≡ some u → follow (rows_of t) (place q t) p ≡ map (λ v. place (q ++ p) t) (resolve p u)
unfolding follow resolve bind
follow_at [] q t u f = rw (row_at_lem q t u f, append-nil q)
follow_at (i ∷ p) q t (token k x) f = rw (row_at_lem q t (token k x) f, le-ltb i 0 (omega arith))
follow_at (i ∷ p) q t (node k cs) f = rw (row_at_lem q t (node k cs) f) (go (lt_or_le i (length (list cs))) (λ c. follow_at p (q ++ (i ∷ [])) t c))
  where
    go : (i < length (list cs)) ⊎ (length (list cs) ≤ i) → ((c : Tree ℕ) → resolve (q ++ (i ∷ [])) t ≡ some c → follow (rows_of t) (place (q ++ (i ∷ [])) t) p ≡ map (λ v. place ((q ++ (i ∷ [])) ++ p) t) (resolve p c))
        → cond (ltb i (length (list cs))) (follow (rows_of t) (child_row (rows_of t) (place q t) i) p) none ≡ map (λ v. place (q ++ (i ∷ p)) t) (bind (get_elem? (list cs) i) (λ c. resolve p c))
    go (inl h) ih =
        let (c, g) = lt_get (list cs) i h in
        let e : resolve (q ++ (i ∷ [])) t ≡ some c = resolve_append q (i ∷ []) t ∙ rw (f, g) in
        let a : (q ++ (i ∷ [])) ++ p ≡ q ++ (i ∷ p) = append_assoc q (i ∷ []) p in
        rw (lt-ltb i (length (list cs)) h, ← child_at q t k cs f i (omega arith), g, ih c e, a)
    go (inr h) ih = rw (le-ltb i (length (list cs)) h, get_none (list cs) i h)

pub follow_path : (p : Path) (t : Tree ℕ) → follow (rows_of t) 0 p ≡ map (λ v. place p t) (resolve p t)
unfolding resolve
follow_path p t = follow_at p [] t t refl

-- ── The rows around a run of children ───────────────────────────────────────────────────────────────────────

-- a run of the root's own children: under the root of all, whole trees
pub run_root : (k : ℕ) (cs : Trees ℕ) (a b : ℕ) → a ≤ b → b ≤ length (list cs) → HasRun (node k cs) [] a b
unfolding resolve
run_root k cs a b h l = record { kind = k; children = cs; found = refl; ordered = h; within = l }

-- the rows before the node at q, its own, those of its children left of the run, of the run, and the others
pub record Site (q : Path) (t : Tree ℕ) (a b : ℕ) (run : List (Tree ℕ)) : Type 0 where
  pub kind : ℕ
  pub many : ℕ
  pub enough : b ≤ many
  pub before : List Row
  pub left : List Row
  pub right : List Row
  pub at : length before ≡ place q t
  pub from : place (q ++ (a ∷ [])) t ≡ suc (length before + length left)
  pub to : place (q ++ (b ∷ [])) t ≡ suc (length before + (length left + size_all run))
  pub trees : length run ≡ b - a
  pub was : rows_of t ≡ before ++ (nod kind many ∷ (left ++ (rows_all run ++ right)))
  pub is : (new : List (Tree ℕ)) → rows_of (splice q a b new t) ≡ before ++ (nod kind (many + length new - (b - a)) ∷ (left ++ (rows_all new ++ right)))

regroup : (p : List Row) (x : Row) (l n d s : List Row) → p ++ ((x ∷ (l ++ (n ++ d))) ++ s) ≡ p ++ (x ∷ (l ++ (n ++ (d ++ s))))
regroup p x l n d s = simp append_assoc

rows_here : (k : ℕ) (cs : Trees ℕ) (a b : ℕ) (new : List (Tree ℕ)) → rows_of (splice [] a b new (node k cs)) ≡ nod k (length (take a (list cs) ++ (new ++ drop b (list cs)))) ∷ rows_all (take a (list cs) ++ (new ++ drop b (list cs)))
unfolding splice
rows_here k cs a b new = rows_node k (take a (list cs) ++ (new ++ drop b (list cs)))

module _ (q : Path) (t : Tree ℕ) (a b : ℕ) (h : HasRun t q a b) where
  pub site : Site q t a b (run_of h)
  unfolding run_of
  site = record {
    kind = h.kind;
    many = length l;
    enough = h.within;
    before = p.before;
    left = rows_all (take a l);
    right = rows_all (drop b l) ++ p.behind;
    at = p.at;
    from = p.down (a ∷ []) ∙ rw (place_child h.kind h.children a) (omega (arith, p.at));
    to = p.down (b ∷ []) ∙ rw (place_child h.kind h.children b) (omega (arith, p.at, both));
    trees = length-take-le (b - a) (drop a l) (simp length-drop (omega (arith, h.within)));
    was = p.was ∙ (rw (rows_in_list h.children, whole) (regroup p.before _ (rows_all (take a l)) (rows_all (take (b - a) (drop a l))) (rows_all (drop b l)) p.behind));
    is = λ new. p.is a b new ∙ (ap (λ (r : List Row). p.before ++ (r ++ p.behind)) (here new) ∙ regroup p.before _ (rows_all (take a l)) (rows_all new) (rows_all (drop b l)) p.behind);
  }
    where
      l : List (Tree ℕ)
      l = list h.children

      p : Parted q t (node h.kind h.children)
      p = parted q t (node h.kind h.children) h.found

      ab : a + (b - a) ≡ b
      ab = omega (arith, h.ordered)

      whole : rows_all l ≡ rows_all (take a l) ++ (rows_all (take (b - a) (drop a l)) ++ rows_all (drop b l))
      whole = ap rows_all (parts a (b - a) l) ∙ (rows_append (take a l) _ ∙ ap (λ (r : List Row). rows_all (take a l) ++ r) (rows_append (take (b - a) (drop a l)) _ ∙ rw ab))

      both : size_all (take b l) ≡ size_all (take a l) + size_all (take (b - a) (drop a l))
      both = ap (λ (n : ℕ). size_all (take n l)) (sym ab) ∙ (ap size_all (take-add a (b - a) l) ∙ size_all_append (take a l) (take (b - a) (drop a l)))

      here : (new : List (Tree ℕ)) → rows_of (splice [] a b new (node h.kind h.children)) ≡ nod h.kind (length l + length new - (b - a)) ∷ (rows_all (take a l) ++ (rows_all new ++ rows_all (drop b l)))
      here new = rows_here h.kind h.children a b new ∙ rw (length_cut l new a b h.ordered h.within, rows_append (take a l) (new ++ drop b l), rows_append new (drop b l))

  -- ── Where the run is ──

  pub run_order : place (q ++ (a ∷ [])) t ≤ place (q ++ (b ∷ [])) t
  run_order = omega (arith, site.from, site.to)

  pub run_after : place q t < place (q ++ (a ∷ [])) t
  run_after = omega (arith, site.from, site.at)

  size_was : size t ≡ length site.before + suc (length site.left + (size_all (run_of h) + length site.right))
  size_was = ap length site.was ∙ simp length-append

  pub run_within : place (q ++ (b ∷ [])) t ≤ size t
  run_within = omega (arith, site.to, size_was)

  head : List Row
  head = site.before ++ (nod site.kind site.many ∷ site.left)

  head_long : length head ≡ place (q ++ (a ∷ [])) t
  unfolding head
  head_long = simp length-append (omega (arith, site.from))

  run_long : place (q ++ (b ∷ [])) t ≡ place (q ++ (a ∷ [])) t + size_all (run_of h)
  run_long = omega (arith, site.from, site.to)

  rows_cut : rows_of t ≡ head ++ (rows_all (run_of h) ++ site.right)
  unfolding head
  rows_cut = site.was ∙ simp append_assoc

  -- the rows of the run
  pub run_rows : between (place (q ++ (a ∷ [])) t) (place (q ++ (b ∷ [])) t) (rows_of t) ≡ rows_all (run_of h)
  unfolding between
  run_rows =
      let n : place (q ++ (b ∷ [])) t - place (q ++ (a ∷ [])) t ≡ size_all (run_of h) = omega (arith, run_long) in
      rw (n, rows_cut, drop_at head (rows_all (run_of h) ++ site.right) (place (q ++ (a ∷ [])) t) head_long) (take_at (rows_all (run_of h)) site.right (size_all (run_of h)) refl)

  -- ── What a splice does to the rows ──

  -- A splice on the rows: the new rows in place of the run's, and the parent's measure changed.
  pub rows_splice : (new : List (Tree ℕ))
      → rows_of (splice q a b new t) ≡ splice_rows (rows_of t) (place q t) (place (q ++ (a ∷ [])) t) (place (q ++ (b ∷ [])) t) (b - a) (rows_all new) (length new)
  unfolding splice_rows modify head
  rows_splice new =
      let x : Row = nod site.kind site.many in
      let e : head ++ (rows_all new ++ site.right) ≡ site.before ++ (x ∷ (site.left ++ (rows_all new ++ site.right))) = simp append_assoc in
      site.is new
      ∙ sym (rw (run_long, rows_cut, part_out head (rows_all (run_of h)) site.right (rows_all new) (place (q ++ (a ∷ [])) t) (size_all (run_of h)) head_long refl, e)
      (modify_right (remeasure (b - a) (length new)) site.before (x ∷ (site.left ++ (rows_all new ++ site.right))) (place q t) 0 (omega (arith, site.at))))

  -- the number of rows
  pub size_splice : (new : List (Tree ℕ)) → size (splice q a b new t) + (place (q ++ (b ∷ [])) t - place (q ++ (a ∷ [])) t) ≡ size t + size_all new
  size_splice new =
      let f : size (splice q a b new t) ≡ length site.before + suc (length site.left + (size_all new + length site.right)) = ap length (site.is new) ∙ simp length-append in
      omega (arith, size_was, run_long)

  -- the length of the text
  pub bytes_splice : (new : List (Tree ℕ)) → bytes (rows_of (splice q a b new t)) + bytes (between (place (q ++ (a ∷ [])) t) (place (q ++ (b ∷ [])) t) (rows_of t)) ≡ bytes (rows_of t) + bytes (rows_all new)
  bytes_splice new =
      let e : bytes (rows_of t) ≡ bytes site.before + (bytes site.left + (bytes (rows_all (run_of h)) + bytes site.right)) = ap bytes site.was ∙ simp bytes_append (omega arith) in
      let f : bytes (rows_of (splice q a b new t)) ≡ bytes site.before + (bytes site.left + (bytes (rows_all new) + bytes site.right)) = ap bytes (site.is new) ∙ simp bytes_append (omega arith) in
      rw run_rows (omega arith)
