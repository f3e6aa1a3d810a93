-- The loops: for each its invariant, that it holds at the start, after a turn, and what it says at the end.
-- Assumes nothing.
use Rattle.std.specs.Prelude.{◌≡◌, refl, List, [], ◌∷◌, ◌++◌, ℕ, zero, suc, ◌+◌, ◌-◌, ◌*◌, ◌≤◌, ◌<◌, ◌⊎◌, min, length, get_or, set, take, drop, Option as Answer, None, Some}
use Rattle.std.proofs.Common.{inl, inr, sym, ap, ◌∙◌, subst, arith, add-one, length-set, length-drop, length-take-le, take-append-drop, get_or-drop, take_all}
use Rattle.std.proofs.Math.Option.{Option, none, some, bind}
use Rattle.std.proofs.Math.ListN.{get_elem?}
use Rattle.std.proofs.Math.Seq.{paste, get_or-set_same, get_or-set_other, get_or-take, take-suc}
use Rattle.std.proofs.lemmas.List.Edits.{length-paste}
use Rattle.orders.specs.ListLaws.{lt_or_le, get_lt, lt_get, some_inj, bind_some}
use Rattle.orders.specs.Tree.{Tree, node, token, list, Path, resolve}
use Rattle.orders.proofs.TreeLaws.{resolve_append, resolve_at}
use Rattle.words.specs.Parts.{get_d_below, get_d_inside}
use Rattle.rows_model.specs.Row.{Row, owes, row_of, rows_of, row_in, first_rows, skip, trees_in}
use Rattle.rows_model.specs.Place.{place, child_row, rows_after}
use Rattle.rows_model.proofs.RowLaws.{skip_none}
use Rattle.rows_model.proofs.PlaceLaws.{place_lt, parent_of, row_at_lem}
use Rattle.rows_model.proofs.Words.{first_at, first_end, first_get, length_first}
use Rattle.rows_syntax_node.specs.Promises.{Counted}
use Rattle.rows_children.specs.Tables.{ChildrenTold, BegunTold, row_by, RowAt}
use Rattle.rows_children.proofs.Looks.{trees_more, child_begins, child_stands}

-- ── How many trees begin ────────────────────────────────────────────────────────────────────────────────────

-- told from row i on
pub record Counting (rows : List ℕ) (n : ℕ) (trees₀ trees : List ℕ) (i begun : ℕ) : Type 0 where
  pub bound : i ≤ n
  pub same : length trees ≡ length trees₀
  pub few : begun + i ≤ n
  pub count : (text : List ℕ) → begun ≡ trees_in (drop i (first_rows text n rows))
  pub told : (text : List ℕ) (r : ℕ) → i ≤ r → r < n → get_or trees r 0 ≡ trees_in (drop r (first_rows text n rows))

pub counting_start : (rows : List ℕ) (n : ℕ) (trees : List ℕ) → 3 * n ≤ length rows → Counting rows n trees trees n 0
counting_start rows n trees long = record {
  bound = omega arith;
  same = refl;
  few = omega arith;
  count = λ text. sym (ap trees_in (first_end text n rows long n (omega arith)));
  told = λ text r h k. absurd (omega arith);
}

module _ {rows : List ℕ} {n : ℕ} {trees₀ trees : List ℕ} {i begun : ℕ} (v : Counting rows n trees₀ trees i begun) (long : 3 * n ≤ length rows) where
  pub counting_next : {c b : ℕ} → 0 < i → n ≤ length trees₀ → Counted rows (i - 1) c → b ≡ begun - c + 1 → Counting rows n trees₀ (set trees (i - 1) b) (i - 1) b
  counting_next {c} {b} h room k e =
      let l : i ≡ suc (i - 1) = omega arith in
      let more : (text : List ℕ) → trees_in (drop (i - 1) (first_rows text n rows)) ≡ b =
      λ text.
      let m : trees_in (drop (suc (i - 1)) (first_rows text n rows)) ≡ begun = ap (λ (j : ℕ). trees_in (drop j (first_rows text n rows))) (sym l) ∙ sym (v.count text) in
      ap trees_in (first_at text n rows long (i - 1) (omega (arith, v.bound)))
      ∙ (trees_more (row_in text rows (i - 1)) (drop (suc (i - 1)) (first_rows text n rows)) ∙ omega (arith, m, k.count text, e))
      in
      record {
        bound = omega (arith, v.bound);
        same = length-set trees (i - 1) b ∙ v.same;
        few = omega (arith, v.few);
        count = λ text. sym (more text);
        told = λ text r x y. go text (more text) r x (lt_or_le (i - 1) r) y;
      }
    where
      go : (text : List ℕ) → trees_in (drop (i - 1) (first_rows text n rows)) ≡ b → (r : ℕ) → i - 1 ≤ r → (i - 1 < r) ⊎ (r ≤ i - 1) → r < n → get_or (set trees (i - 1) b) r 0 ≡ trees_in (drop r (first_rows text n rows))
      go text m r x (inl z) y = get_or-set_other trees (i - 1) r b 0 (omega arith) ∙ v.told text r (omega arith) y
      go text m r x (inr z) y =
          let q : i - 1 ≡ r = omega arith in
          ap (λ (j : ℕ). get_or (set trees (i - 1) b) j 0) (sym q) ∙ (get_or-set_same trees (i - 1) b 0 (omega (arith, v.same, v.bound)) ∙ (sym m ∙ ap (λ (j : ℕ). trees_in (drop j (first_rows text n rows))) q))

  pub counting_done : i ≤ 0 → BegunTold rows n trees
  counting_done h = record { told = λ text r k. v.told text r (omega arith) k }

-- ── The children of every row ───────────────────────────────────────────────────────────────────────────────

-- what is owed, or all that is there
pub owed_least : {c m k : ℕ} → c ≡ min m k → (c ≤ m) × (c ≤ k) × ((c ≡ m) ⊎ (c ≡ k))
owed_least {c} {m} {k} e = go (lt_or_le m k)
  where
    go : (m < k) ⊎ (k ≤ m) → (c ≤ m) × (c ≤ k) × ((c ≡ m) ⊎ (c ≡ k))
    go (inl h) = (omega arith, omega arith, inl (omega arith))
    go (inr h) = (omega arith, omega arith, inr (omega arith))

-- those of the rows from i on are told, and the roots of the trees that begin there stand from `top` on
pub record Building (rows : List ℕ) (n : ℕ) (roots₀ first₀ child₀ roots first child : List ℕ) (i top to : ℕ) : Type 0 where
  pub bound : i ≤ n
  pub low : i ≤ top
  pub high : top ≤ n
  pub same : (length roots ≡ length roots₀) × (length first ≡ length first₀) × (length child ≡ length child₀)
  -- what is not a root is a child
  pub all : to + i ≡ top
  pub count : (text : List ℕ) → n - top ≡ trees_in (drop i (first_rows text n rows))
  pub begin : (text : List ℕ) (j : ℕ) → j < n - top → get_or roots (top + j) 0 ≡ i + skip j (drop i (first_rows text n rows))
  pub told : (text : List ℕ) (r j : ℕ) (x : Row) → i ≤ r → get_elem? (first_rows text n rows) r ≡ some x → j < owes x → j < trees_in (drop (suc r) (first_rows text n rows))
      → (get_or first r 0 + j < to) × (get_or child (get_or first r 0 + j) 0 ≡ suc r + skip j (drop (suc r) (first_rows text n rows)))

pub building_start : (rows : List ℕ) (n : ℕ) (roots first child : List ℕ) → 3 * n ≤ length rows → Building rows n roots first child roots first child n n 0
building_start rows n roots first child long = record {
  bound = omega arith;
  low = omega arith;
  high = omega arith;
  same = (refl, refl, refl);
  all = omega arith;
  count = λ text. let z : n - n ≡ 0 = omega arith in z ∙ sym (ap trees_in (first_end text n rows long n (omega arith)));
  begin = λ text j h. absurd (omega arith);
  told = λ text r j x h e k m. absurd (omega (arith, get_lt (first_rows text n rows) r e, length_first text n rows long));
}

module _ {rows : List ℕ} {n : ℕ} {roots₀ first₀ child₀ roots first child : List ℕ} {i top to : ℕ} (v : Building rows n roots₀ first₀ child₀ roots first child i top to) (long : 3 * n ≤ length rows) (h : 0 < i) {m : ℕ} (k : Counted rows (i - 1) m) where
  abbrev rs : List ℕ → List Row
  rs text = first_rows text n rows

  behind : (text : List ℕ) → drop (suc (i - 1)) (rs text) ≡ drop i (rs text)
  behind text = let l : suc (i - 1) ≡ i = omega arith in ap (λ (j : ℕ). drop j (rs text)) l

  here : (text : List ℕ) → drop (i - 1) (rs text) ≡ row_in text rows (i - 1) ∷ drop i (rs text)
  here text = first_at text n rows long (i - 1) (omega (arith, v.bound)) ∙ ap (λ (l : List Row). row_in text rows (i - 1) ∷ l) (behind text)

  module _ {c : ℕ} (owed : (c ≤ m) × (c ≤ n - top) × ((c ≡ m) ⊎ (c ≡ n - top))) (room : (n ≤ length roots₀) × (n ≤ length first₀) × (n ≤ length child₀)) where
    -- the children are there, and there is a place for the root
    pub building_room : (top + c ≤ length roots) × (i - 1 < length first) × (to + c ≤ length child) × (1 ≤ top + c) × (top + c - 1 < length roots)
    building_room = (omega (arith, v.high, v.same.0, room.0), omega (arith, v.bound, v.same.1, room.1), omega (arith, v.all, v.low, v.high, v.same.2, room.2), omega (arith, v.low), omega (arith, v.high, v.low, v.same.0, room.0))

    abbrev run : List ℕ
    run = take (top + c - top) (drop top roots)

    run_long : length run ≡ c
    run_long = length-take-le (top + c - top) (drop top roots) (omega (arith, length-drop top roots, v.high, v.same.0, room.0)) ∙ omega arith

    run_at : (j : ℕ) → j < c → get_or run j 0 ≡ get_or roots (top + j) 0
    run_at j l = get_or-take (top + c - top) (drop top roots) j 0 (omega arith) ∙ get_or-drop top roots j 0

    module _ {child' : List ℕ} (w : child' ≡ paste child to run (length run)) where
      count_next : (text : List ℕ) → n - (top + c - 1) ≡ trees_in (drop (i - 1) (rs text))
      count_next text =
          let a = v.count text in
          let b = k.count text in
          let d = trees_more (row_in text rows (i - 1)) (drop i (rs text)) in
          go owed.2 ∙ sym (ap trees_in (here text) ∙ d)
        where
          go : (c ≡ m) ⊎ (c ≡ n - top) → n - (top + c - 1) ≡ suc (trees_in (drop i (rs text)) - owes (row_in text rows (i - 1)))
          go (inl e) = omega (arith, v.count text, k.count text, e, v.high, v.low, owed.1)
          go (inr e) = omega (arith, v.count text, k.count text, e, v.high, v.low, owed.0)

      begin_next : (text : List ℕ) (j : ℕ) → j < n - (top + c - 1) → get_or (set roots (top + c - 1) (i - 1)) (top + c - 1 + j) 0 ≡ i - 1 + skip j (drop (i - 1) (rs text))
      begin_next text zero l =
          let z : top + c - 1 + 0 ≡ top + c - 1 = omega arith in
          ap (λ (j : ℕ). get_or (set roots (top + c - 1) (i - 1)) j 0) z ∙ (get_or-set_same roots (top + c - 1) (i - 1) 0 building_room.4 ∙ omega (arith, skip_none (drop (i - 1) (rs text))))
      begin_next text (suc j) l =
          let z : top + c - 1 + suc j ≡ top + (c + j) = omega (arith, building_room.3) in
          let s : skip (suc j) (drop (i - 1) (rs text)) ≡ suc (skip (j + owes (row_in text rows (i - 1))) (drop i (rs text))) = ap (skip (suc j)) (here text) in
          let o : c + j ≡ j + owes (row_in text rows (i - 1)) = go owed.2 in
          ap (λ (j : ℕ). get_or (set roots (top + c - 1) (i - 1)) j 0) z
          ∙ (get_or-set_other roots (top + c - 1) (top + (c + j)) (i - 1) 0 (omega (arith, building_room.3))
          ∙ (v.begin text (c + j) (omega (arith, owed.1, v.high, building_room.3)) ∙ (ap (λ (k : ℕ). i + skip k (drop i (rs text))) o ∙ omega (arith, s))))
        where
          go : (c ≡ m) ⊎ (c ≡ n - top) → c + j ≡ j + owes (row_in text rows (i - 1))
          go (inl e) = omega (arith, k.count text)
          go (inr e) = absurd (omega (arith, v.high, building_room.3))

      -- what is told of the children of row i - 1
      told_here : (text : List ℕ) (j : ℕ) (x : Row) → get_elem? (rs text) (i - 1) ≡ some x → j < owes x → j < trees_in (drop (suc (i - 1)) (rs text))
          → (to + j < to + c) × (get_or child' (to + j) 0 ≡ suc (i - 1) + skip j (drop (suc (i - 1)) (rs text)))
      told_here text j x e l b =
          let is : row_in text rows (i - 1) ≡ x = some_inj (sym (first_get text n rows long (i - 1) (omega (arith, v.bound))) ∙ e) in
          let few : j < n - top = omega (arith, b, ap trees_in (behind text), v.count text) in
          let inside : j < c = go owed.2 few (omega (arith, l, k.count text, ap owes is)) in
          let s : i + skip j (drop i (rs text)) ≡ suc (i - 1) + skip j (drop (suc (i - 1)) (rs text)) = omega (arith, ap (skip j) (behind text)) in (
            omega arith,
            ap (λ (l : List ℕ). get_or l (to + j) 0) w
                ∙ (get_d_inside child to run (length run) (omega (arith, run_long, building_room.2)) (omega arith) 0 j (to + j) (omega (arith, run_long)) refl
                ∙ (run_at j inside ∙ (v.begin text j few ∙ s))),
          )
        where
          go : (c ≡ m) ⊎ (c ≡ n - top) → j < n - top → j < m → j < c
          go (inl e) a b = omega arith
          go (inr e) a b = omega arith

      told_next : (text : List ℕ) (r j : ℕ) (x : Row) → i - 1 ≤ r → get_elem? (rs text) r ≡ some x → j < owes x → j < trees_in (drop (suc r) (rs text)) → (i - 1 < r) ⊎ (r ≤ i - 1)
          → (get_or (set first (i - 1) to) r 0 + j < to + c) × (get_or child' (get_or (set first (i - 1) to) r 0 + j) 0 ≡ suc r + skip j (drop (suc r) (rs text)))
      told_next text r j x z e l b (inl y) =
          let (p, q) = v.told text r j x (omega arith) e l b in
          let f : get_or (set first (i - 1) to) r 0 ≡ get_or first r 0 = get_or-set_other first (i - 1) r to 0 (omega arith) in (
            omega (arith, f, p),
            ap (λ (a : ℕ). get_or child' (a + j) 0) f ∙ (ap (λ (l : List ℕ). get_or l (get_or first r 0 + j) 0) w ∙ (get_d_below child to run (length run) (omega (arith, run_long, building_room.2)) (omega arith) 0 (get_or first r 0 + j) p ∙ q)),
          )
      told_next text r j x z e l b (inr y) =
          let q : i - 1 ≡ r = omega arith in
          subst (λ (r : ℕ). (get_or (set first (i - 1) to) r 0 + j < to + c) × (get_or child' (get_or (set first (i - 1) to) r 0 + j) 0 ≡ suc r + skip j (drop (suc r) (rs text)))) q
          (rw (get_or-set_same first (i - 1) to 0 building_room.1) (told_here text j x (ap (get_elem? (rs text)) q ∙ e) l (subst (λ (r : ℕ). j < trees_in (drop (suc r) (rs text))) (sym q) b)))

      pub building_next : Building rows n roots₀ first₀ child₀ (set roots (top + c - 1) (i - 1)) (set first (i - 1) to) child' (i - 1) (top + c - 1) (to + c)
      building_next = record {
        bound = omega (arith, v.bound);
        low = omega (arith, v.low, building_room.3);
        high = omega (arith, v.high, owed.1);
        same = (
          length-set roots (top + c - 1) (i - 1) ∙ v.same.0,
          length-set first (i - 1) to ∙ v.same.1,
          ap length w ∙ (length-paste child to run (length run) (omega (arith, run_long, building_room.2)) (omega arith) ∙ v.same.2),
        );
        all = omega (arith, v.all, building_room.3);
        count = count_next;
        begin = begin_next;
        told = λ text r j x z e l b. told_next text r j x z e l b (lt_or_le (i - 1) r);
      }

pub building_done : {rows : List ℕ} {n : ℕ} {roots₀ first₀ child₀ roots first child : List ℕ} {i top to : ℕ} → Building rows n roots₀ first₀ child₀ roots first child i top to → 3 * n ≤ length rows → i ≤ 0 → ChildrenTold rows n first child
unfolding child_row rows_after
building_done {rows} {n} v long h = record {
  told = λ text r i x e l b. (v.told text r i x (omega arith) e l (child_begins (first_rows text n rows) r i (omega (arith, b, length_first text n rows long)))).1;
}

-- ── The way down ────────────────────────────────────────────────────────────────────────────────────────────

-- the first j child numbers lead to the element at row `at`
pub record Walking (rows : List ℕ) (n : ℕ) (path : List ℕ) (at j : ℕ) : Type 0 where
  pub inside : j ≤ length path
  pub told : (text : List ℕ) (t : Tree ℕ) → first_rows text n rows ≡ rows_of t → (u : Tree ℕ) × (resolve (take j path) t ≡ some u) × (at ≡ place (take j path) t)

pub walking_start : (rows : List ℕ) (n : ℕ) (path : List ℕ) → Walking rows n path 0 0
unfolding resolve
walking_start rows n path = record { inside = omega arith; told = λ text t e. (t, refl, refl) }

module _ {rows : List ℕ} {n : ℕ} {path : List ℕ} {at j : ℕ} (v : Walking rows n path at j) (long : 3 * n ≤ length rows) where
  pub walking_out : n ≤ at → RowAt rows n path None
  walking_out h text t e =
      let (u, a, b) = v.told text t e in
      absurd (omega (arith, b, place_lt (take j path) t u a, ap length e, length_first text n rows long))

  module _ {i m : ℕ} (h : j < length path) (s : i ≡ get_or path j 0) (l : at < n) (k : Counted rows at m) where
    on : take (suc j) path ≡ take j path ++ (i ∷ [])
    on = take-suc path j 0 h ∙ ap (λ (x : ℕ). take j path ++ (x ∷ [])) (sym s)

    -- how many children the element has
    many : (text : List ℕ) (t : Tree ℕ) → first_rows text n rows ≡ rows_of t → (u : Tree ℕ) → resolve (take j path) t ≡ some u → at ≡ place (take j path) t → m ≡ owes (row_of u)
    many text t e u a b =
        let f : get_elem? (first_rows text n rows) at ≡ some (row_of u) = ap (λ (rs : List Row). get_elem? rs at) e ∙ (ap (get_elem? (rows_of t)) b ∙ row_at_lem (take j path) t u a) in
        k.count text ∙ ap owes (some_inj (sym (first_get text n rows long at l) ∙ f))

    pub walking_none : m ≤ i → RowAt rows n path None
    unfolding row_by
    walking_none x text t e =
        let (u, a, b) = v.told text t e in
        go (resolve path t) refl u a (many text t e u a b)
      where
        go : (o : Option (Tree ℕ)) → resolve path t ≡ o → (u : Tree ℕ) → resolve (take j path) t ≡ some u → m ≡ owes (row_of u) → ◌≡◌ {A = Answer ℕ} None (row_by path t o)
        go none z u a y = refl
        go (some w) z u a y =
            let parted : bind (resolve (take (suc j) path) t) (λ c. resolve (drop (suc j) path) c) ≡ some w =
            sym (resolve_append (take (suc j) path) (drop (suc j) path) t) ∙ (ap (λ (p : Path). resolve p t) (take-append-drop (suc j) path) ∙ z) in
            let (c, f, g) = bind_some (resolve (take (suc j) path) t) (λ c. resolve (drop (suc j) path) c) parted in
            let (k, cs, p, q) = parent_of (take j path) i t c (ap (λ (p : Path). resolve p t) (sym on) ∙ f) in
            let is : u ≡ node k cs = some_inj {b = node k cs} (sym a ∙ p) in
            absurd (omega (arith, y, ap (λ (u : Tree ℕ). owes (row_of u)) is, get_lt (list cs) i q))

    below : (t u : Tree ℕ) → resolve (take j path) t ≡ some u → m ≡ owes (row_of u) → i < m → (c : Tree ℕ) × (resolve (take j path ++ (i ∷ [])) t ≡ some c)
    unfolding resolve bind
    below t (token k x) a y z = absurd (omega arith)
    below t (node k cs) a y z =
        let (c, g) = lt_get (list cs) i (omega arith) in
        (c, resolve_append (take j path) (i ∷ []) t ∙ (ap (λ o. bind o (λ u. resolve (i ∷ []) u)) a ∙ resolve_at k cs i [] c g))

    pub walking_next : i < m → {first child : List ℕ} {to : ℕ} → ChildrenTold rows n first child → to ≡ get_or child (get_or first at 0 + i) 0 → Walking rows n path to (j + 1)
    walking_next x {first} {child} {to} w z = record {
      inside = omega arith;
      told = λ text t e.
          let (u, a, b) = v.told text t e in
          let (c, f) = below t u a (many text t e u a b) x in
          let g : resolve (take (suc j) path) t ≡ some c = ap (λ (p : Path). resolve p t) on ∙ f in
          rw (add-one j) (c, g, z ∙ (ap (λ (r : ℕ). get_or child (get_or first r 0 + i) 0) b ∙ (child_stands text rows n t long e (take j path) i c f w ∙ ap (λ (p : Path). place p t) (sym on))));
    }

  pub walking_done : length path ≤ j → RowAt rows n path (Some at)
  unfolding row_by
  walking_done h text t e =
      let (u, a, b) = v.told text t e in
      let z : take j path ≡ path = take_all j path h in
      ap {B = Answer ℕ} Some (b ∙ ap (λ (p : Path). place p t) z) ∙ ap (row_by path t) (sym (ap (λ (p : Path). resolve p t) (sym z) ∙ a))
