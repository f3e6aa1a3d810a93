-- The words that are judged are read by functions: the tree, the list and the answer of `splice_list`.
-- Assumes nothing.
use Rattle.std.specs.Prelude.{◌≡◌, Bool, true, false, not, ◌&&◌, ◌↔◌, ◌⊎◌, length, take, drop, leb, ltb, eqb}
use Rattle.std.proofs.Math.Bool.{and-false}
use Rattle.std.proofs.Math.Path.{refl}
use Rattle.std.proofs.Common.{sym, ap, ◌∙◌, inl, inr, arith, zero-add, length-drop, take-append-drop, length-take-le, eqb-true, ltb-true, leb-true, lt-ltb, le-ltb}
use mathlib.Core.List.{List, [], ◌∷◌, ◌++◌, append_assoc, append-nil}
use Prim.Native.Nat.{ℕ, zero, suc, ◌+◌, ◌*◌, ◌/◌, ◌≤◌, ◌<◌}
use Rattle.std.proofs.Math.ListN.{get_or}
use Rattle.std.proofs.Math.Seq.{take-append_seam, drop-append_seam}
use Rattle.orders.specs.Lists.{All}
use Rattle.orders.specs.ListLaws.{bool?, both_true, lt_or_le, lt_get, All-map}
use Rattle.orders.specs.Tree.{Tree, Trees, node, token, nil, cons, list}
use Rattle.orders.proofs.TreeLaws.{forest_list}
use Rattle.orders.specs.Splices.{AllApart, Fits}
use Rattle.orders.proofs.Check.{each, pairs, fits?, apart?, all_apart?, says_all_apart, says_run}
use Rattle.definition.specs.Basics.{refused, gives, ◌>>=◌, refuse}
use Rattle.definition_laws.specs.Basics.{All-take, All-drop, up_from, up_long}
use Rattle.definition_laws.specs.Kin.{get_get_d}
use Rattle.rows_model.specs.Row.{Row, tok, nod, outside, owes, rows_of, rows_in, rows_all, row_at, triples, first_rows, trees_in}
use Rattle.rows_model.proofs.RowLaws.{rows_node, rows_append, trees_count}
use Rattle.rows_model.proofs.Words.{rows_many, token_row, node_row}
use Rattle.splices_model.specs.Cuts.{Cut, cut_of, cut_at, cuts_to, part_at, paths, Stands, Told}
use Rattle.splices_model.specs.Places.{paths_many, paths_stood, up_from_part}
use Rattle.splices_model.specs.Bounds.{rows_to}
use Rattle.splices_model.specs.Verdict.{owed, closed, tree_rows, tree_closed, bounded_at, has_run_at, fit_at, fits_to, apart_cut, limited, roomy, first_wrong, judged_by, none_wrong, fit_told, pairs_cut}
use Rattle.splices_model.specs.SpliceList.{row_told, rows_told, grow, trees_of, old_tree, splice_at, splices_to, tells_at, suits_at, suits_to, rewritten, splice_list}

-- ── Closed rows are those of the trees that are read ────────────────────────────────────────────────────────

-- a row that tells an element: a token's text is there
abbrev pub Inside : Row → Type 0
Inside (tok k x) = Unit {0}
Inside (nod k m) = Unit {0}
Inside (outside k m) = ⊥

-- a row and the trees behind it
grown : (r : Row) → Inside r → (ts : List (Tree ℕ)) → owes r ≤ length ts → (r ∷ rows_all ts ≡ rows_all (grow r ts)) × (length (grow r ts) + owes r ≡ suc (length ts))
grown (tok k x) h ts l = (refl, omega arith)
grown (nod k m) h ts l =
    let e : length (take m ts) ≡ m = length-take-le m ts l in
    let s : rows_all ts ≡ rows_all (take m ts) ++ rows_all (drop m ts) = ap rows_all (sym (take-append-drop m ts)) ∙ rows_append (take m ts) (drop m ts) in
    (ap {B = List Row} (λ l. nod k m ∷ l) s ∙ sym (ap {B = List Row} (λ l. l ++ rows_all (drop m ts)) (rows_node k (take m ts) ∙ ap {B = List Row} (λ n. nod k n ∷ rows_all (take m ts)) e)), omega (arith, length-drop m ts))
grown (outside k m) h ts l = absurd h

-- rows behind which nothing is owed, where o trees are owed before them
trees_told : (rs : List Row) (o : ℕ) → owed o rs ≡ 0 → All Inside rs → (rs ≡ rows_all (trees_of rs)) × (o ≤ length (trees_of rs))
unfolding owed trees_of
trees_told [] o e h = (refl, omega arith)
trees_told (r ∷ rs) zero e h =
    let g = trees_told rs (owes r) e h.1 in
    let t = grown r h.0 (trees_of rs) g.1 in
    (ap {B = List Row} (λ l. r ∷ l) g.0 ∙ t.0, omega arith)
trees_told (r ∷ rs) (suc o) e h =
    let g = trees_told rs (o + owes r) e h.1 in
    let t = grown r h.0 (trees_of rs) (omega (arith, g.1)) in
    (ap {B = List Row} (λ l. r ∷ l) g.0 ∙ t.0, omega (arith, t.1, g.1))

pub closed_trees : (rs : List Row) → closed rs ≡ true → All Inside rs → rs ≡ rows_all (trees_of rs)
unfolding closed
closed_trees rs e h = (trees_told rs 0 (eqb-true (owed 0 rs) 0 e) h).0

-- rows of one tree
pub tree_found : (rs : List Row) (d : Tree ℕ) → tree_rows rs ≡ true → All Inside rs → rs ≡ rows_of (get_or (trees_of rs) 0 d)
unfolding tree_rows
tree_found rs d e h =
    let x = both_true (closed rs) (eqb (trees_in rs) 1) e in
    let g = closed_trees rs x.0 h in
    go (trees_of rs) g (sym (trees_count (trees_of rs)) ∙ (ap trees_in (sym g) ∙ eqb-true (trees_in rs) 1 x.1))
  where
    go : (ts : List (Tree ℕ)) → rs ≡ rows_all ts → length ts ≡ 1 → rs ≡ rows_of (get_or ts 0 d)
    go [] f n = absurd (omega arith)
    go (t ∷ []) f n = f ∙ append-nil (rows_of t)
    go (t ∷ u ∷ ts) f n = absurd (omega arith)

-- ── The trees that are read are those that the rows tell ────────────────────────────────────────────────────

mutual
  unfolding trees_of list

  tree_read : (t : Tree ℕ) (rs : List Row) → trees_of (rows_of t ++ rs) ≡ t ∷ trees_of rs
  tree_read (token k x) rs = refl
  tree_read (node k cs) rs = rw (trees_read cs rs, take-append_seam (list cs) (trees_of rs), drop-append_seam (list cs) (trees_of rs), forest_list cs)

  trees_read : (ts : Trees ℕ) (rs : List Row) → trees_of (rows_in ts ++ rs) ≡ list ts ++ trees_of rs
  trees_read nil rs = refl
  trees_read (cons t ts) rs = rw (append_assoc (rows_of t) (rows_in ts) rs, tree_read t (rows_in ts ++ rs), trees_read ts rs)

pub told_inside : (l : List ℕ) → All Inside (rows_told l)
told_inside [] = tt
told_inside (k ∷ []) = tt
told_inside (k ∷ m ∷ []) = tt
told_inside (k ∷ m ∷ o ∷ l) = (elim (lt_or_le k 2147483648) [ inl h ↦ rw (lt-ltb k 2147483648 h) tt | inr h ↦ rw (le-ltb k 2147483648 h) tt ], told_inside l)

-- THE OLD TREE is the one that the rows tell; if they tell none, the test of refusal 3 says so
pub old_tree_says : (rows : List ℕ) (e : ℕ) (t : Tree ℕ) → (rows_told (take (3 * e) rows) ≡ rows_of t) ↔ ((tree_rows (rows_told (take (3 * e) rows)) ≡ true) × (old_tree rows e ≡ t))
unfolding old_tree trees_of
old_tree_says rows e t = (λ z. (rw z (tree_closed t), ap (λ rs. get_or (trees_of rs) 0 (token 0 [])) (z ∙ sym (append-nil (rows_of t))) ∙ ap (λ ts. get_or ts 0 (token 0 [])) (tree_read t [])), λ x. tree_found (rows_told (take (3 * e) rows)) (token 0 []) x.0 (told_inside (take (3 * e) rows)) ∙ ap rows_of x.1)

-- ── Words in a text of places ───────────────────────────────────────────────────────────────────────────────

-- the numbers below n as a text: at each place stands the place
abbrev pub places_below : ℕ → List ℕ
places_below n = up_from 0 n

row_told_lem : (b n k m o : ℕ) → b + b ≤ n → m < b → o < b → (row_told k m o ≡ row_at (places_below n) k m o) × Inside (row_at (places_below n) k m o)
row_told_lem b n k m o h g f = elim (lt_or_le k 2147483648) [
  | inl l ↦
      let i : o + m ≤ length (up_from 0 n) = omega (arith, up_long 0 n) in
      let p : take m (drop o (up_from 0 n)) ≡ up_from o m = up_from_part o 0 n m (omega arith) ∙ ap (λ (x : ℕ). up_from x m) (zero-add o) in
      rw (token_row (up_from 0 n) k m o l i, p, lt-ltb k 2147483648 l) (refl, tt)
  | inr l ↦ rw (node_row (up_from 0 n) k m o l, le-ltb k 2147483648 l) (refl, tt)
]

-- words that are small enough are told the same
pub rows_told_lem : (b n : ℕ) → b + b ≤ n → (l : List ℕ) → All (λ x. x < b) l → (triples (places_below n) l ≡ rows_told l) × All Inside (triples (places_below n) l)
rows_told_lem b n g [] h = (refl, tt)
rows_told_lem b n g (k ∷ []) h = (refl, tt)
rows_told_lem b n g (k ∷ m ∷ []) h = (refl, tt)
rows_told_lem b n g (k ∷ m ∷ o ∷ l) h =
    let r = row_told_lem b n k m o g h.1.0 h.1.1.0 in
    let t = rows_told_lem b n g l h.1.1.1 in
    (cc (r.0, t.0), (r.1, t.1))

-- words have a bound
bound : (l : List ℕ) → (b : ℕ) × All (λ x. x < b) l
bound [] = (0, tt)
bound (x ∷ l) = let r = bound l in (suc x + r.0, (omega arith, All-map (λ y h. omega (arith, h)) l r.1))

-- a text in which the rows and all prepared rows are told so
pub record Legible (rows : List ℕ) (e : ℕ) (splices prepared : List ℕ) (n : ℕ) : Type 0 where
  pub old : first_rows (places_below n) e rows ≡ rows_told (take (3 * e) rows)
  pub old_inside : All Inside (first_rows (places_below n) e rows)
  pub new : (j : ℕ) → triples (places_below n) (part_at splices prepared j) ≡ rows_told (part_at splices prepared j)
  pub new_inside : (j : ℕ) → All Inside (triples (places_below n) (part_at splices prepared j))

pub legible : (rows : List ℕ) (e : ℕ) (splices prepared : List ℕ) → (n : ℕ) × Legible rows e splices prepared n
legible rows e s p =
    let b = bound rows in
    let c = bound p in
    let a : ℕ = b.0 + c.0 in
    let f = rows_told_lem a (a + a) (omega arith) (take (3 * e) rows) (All-take (λ x. x < a) (3 * e) rows (All-map (λ y h. omega (arith, h)) rows b.1)) in
    (a + a, record { old = f.0; old_inside = f.1; new = λ j. (part j).0; new_inside = λ j. (part j).1 })
  where
    few : All (λ x. x < (bound rows).0 + (bound p).0) p
    few = All-map (λ y h. omega (arith, h)) p (bound p).1

    part : (j : ℕ) → (triples (places_below ((bound rows).0 + (bound p).0 + ((bound rows).0 + (bound p).0))) (part_at s p j) ≡ rows_told (part_at s p j)) × All Inside (triples (places_below ((bound rows).0 + (bound p).0 + ((bound rows).0 + (bound p).0))) (part_at s p j))
    part j = rows_told_lem ((bound rows).0 + (bound p).0) ((bound rows).0 + (bound p).0 + ((bound rows).0 + (bound p).0)) (omega arith) (part_at s p j) (All-take (λ x. x < (bound rows).0 + (bound p).0) (3 * get_or s (6 * j + 5) 0) (drop (3 * get_or s (6 * j + 4) 0) p) (All-drop (λ x. x < (bound rows).0 + (bound p).0) (3 * get_or s (6 * j + 4) 0) p few))

-- ── The tree and the splices that are read ──────────────────────────────────────────────────────────────────

-- two cuts are the same if their parents and their rows are
cut_same : (n a b : ℕ) {P P' : ℕ} {R R' : List Row} → P ≡ P' → R ≡ R' → ◌≡◌ {A = Cut} (record { number = n; parent = P; from = a; to = b; rows = R }) (record { number = n; parent = P'; from = a; to = b; rows = R' })
cut_same n a b e f = rw (e, f)

module _ (rows : List ℕ) (E : ℕ) (s p : List ℕ) (n : ℕ) (legibly : Legible rows E s p n) where
  -- the old tree is the one that is read
  pub old_told : tree_rows (rows_told (take (3 * E) rows)) ≡ true → first_rows (places_below n) E rows ≡ rows_of (old_tree rows E)
  unfolding old_tree
  old_told z = rw legibly.old (tree_found (rows_told (take (3 * E) rows)) (token 0 []) z (rw legibly.old at legibly.old_inside))

  module _ (long : 3 * E ≤ length rows) (e : first_rows (places_below n) E rows ≡ rows_of (old_tree rows E)) where
    cut_found : (j : ℕ) → get_or s (6 * j + 1) 0 < E → closed (rows_told (part_at s p j)) ≡ true → (cut_at (places_below n) s p j ≡ cut_of (old_tree rows E) (splice_at (old_tree rows E) s p j)) × Stands (old_tree rows E) (splice_at (old_tree rows E) s p j)
    unfolding cut_at cut_of splice_at
    cut_found j h c =
        let x = lt_get (paths (old_tree rows E)) (get_or s (6 * j + 1) 0) (omega (arith, paths_many (old_tree rows E), rows_many (places_below n) E rows (old_tree rows E) long e)) in
        let q = paths_stood (old_tree rows E) (get_or s (6 * j + 1) 0) x.0 x.1 in
        let g = get_get_d (paths (old_tree rows E)) (get_or s (6 * j + 1) 0) x.0 [] x.1 in
        rw g (cut_same (get_or s (6 * j) 0) (get_or s (6 * j + 2) 0) (get_or s (6 * j + 3) 0) (sym q.at) (legibly.new j ∙ closed_trees (rows_told (part_at s p j)) c (rw (legibly.new j) at (legibly.new_inside j))), (q.element, q.leads))

    -- a splice fits by its words just where the splice that is read does
    fit_suits : (j : ℕ) → fit_at (places_below n) rows E s p j ≡ suits_at (old_tree rows E) E s p j
    unfolding fit_at bounded_at suits_at tells_at
    fit_suits j = go (bool? (ltb (get_or s (6 * j + 1) 0) E)) (bool? (leb (3 * get_or s (6 * j + 4) 0 + 3 * get_or s (6 * j + 5) 0) (length p))) (bool? (closed (rows_told (part_at s p j))))
      where
        go : (ltb (get_or s (6 * j + 1) 0) E ≡ true) ⊎ (ltb (get_or s (6 * j + 1) 0) E ≡ false)
            → (leb (3 * get_or s (6 * j + 4) 0 + 3 * get_or s (6 * j + 5) 0) (length p) ≡ true) ⊎ (leb (3 * get_or s (6 * j + 4) 0 + 3 * get_or s (6 * j + 5) 0) (length p) ≡ false)
            → (closed (rows_told (part_at s p j)) ≡ true) ⊎ (closed (rows_told (part_at s p j)) ≡ false) → fit_at (places_below n) rows E s p j ≡ suits_at (old_tree rows E) E s p j
        go (inl a) (inl b) (inl c) =
            let f = cut_found j (ltb-true _ _ a) c in
            fit_told (places_below n) (old_tree rows E) rows E s p long e j (splice_at (old_tree rows E) s p j) f.0 f.1 (leb-true _ _ b) ∙ rw (a, b, c)
        go (inr a) b c = rw a
        go (inl a) (inr b) c = rw (a, b, and-false (leb (get_or s (6 * j + 3) 0) E), and-false (leb (get_or s (6 * j + 2) 0) (get_or s (6 * j + 3) 0)))
        go (inl a) (inl b) (inr c) = rw (a, b, legibly.new j, c, and-false (has_run_at rows s j)) (and-false (leb (get_or s (6 * j + 2) 0) (get_or s (6 * j + 3) 0) && (leb (get_or s (6 * j + 3) 0) E && true)))

    pub fits_suit : (k : ℕ) → fits_to (places_below n) rows E s p k ≡ suits_to (old_tree rows E) E s p k
    unfolding fits_to suits_to
    fits_suit zero = refl
    fits_suit (suc k) = rw (fit_suits k, fits_suit k)

    -- the words tell the list that is read
    pub list_told : (k : ℕ) → suits_to (old_tree rows E) E s p k ≡ true → Told (places_below n) (old_tree rows E) s p k (splices_to (old_tree rows E) s p k)
    unfolding suits_to suits_at tells_at cuts_to splices_to
    list_told zero z = record { cuts = refl; stand = tt }
    list_told (suc k) z =
        let x = both_true (suits_at (old_tree rows E) E s p k) (suits_to (old_tree rows E) E s p k) z in
        let y = both_true (tells_at E s p k) (fits? (old_tree rows E) (splice_at (old_tree rows E) s p k)) x.0 in
        let a = both_true (ltb (get_or s (6 * k + 1) 0) E) _ y.0 in
        let b = both_true (leb (3 * get_or s (6 * k + 4) 0 + 3 * get_or s (6 * k + 5) 0) (length p)) (closed (rows_told (part_at s p k))) a.1 in
        let f = cut_found k (ltb-true _ _ a.0) b.1 in
        let r = list_told k x.1 in
        record { cuts = cc (f.0, r.cuts); stand = (f.1, r.stand) }

-- and each splice of it fits
pub suits_fit : (old : Tree ℕ) (E : ℕ) (s p : List ℕ) (k : ℕ) → suits_to old E s p k ≡ true → All (Fits old) (splices_to old s p k)
unfolding suits_to suits_at splices_to fits?
suits_fit old E s p zero z = tt
suits_fit old E s p (suc k) z =
    let x = both_true (suits_at old E s p k) (suits_to old E s p k) z in
    let t = splice_at old s p k in
    ((says_run old t.parent t.from t.to).0 (both_true (tells_at E s p k) (fits? old t) x.0).1, suits_fit old E s p k x.1)

-- ── The verdict and the answer ──────────────────────────────────────────────────────────────────────────────

-- the first refusal, by the tree and the list that are read
unfoldable pub wrong : List ℕ → ℕ → List ℕ → List ℕ → ℕ → ℕ
wrong rows E s p c =
    first_wrong (limited E s p c) (roomy (length rows) E s c) (tree_rows (rows_told (take (3 * E) rows))) (suits_to (old_tree rows E) E s p c) (pairs apart? (splices_to (old_tree rows E) s p c))

-- the old rows are there
roomy_long : (long E : ℕ) (s : List ℕ) (c : ℕ) → roomy long E s c ≡ true → 3 * E ≤ long
unfolding roomy
roomy_long long E s c z = omega (arith, leb-true (3 * E + 3 * rows_to s c) long (both_true _ _ z).0)

-- WHAT IS JUDGED BY ROWS is what the tree and the list say
pub judged_wrong : (rows : List ℕ) (E : ℕ) (s p : List ℕ) (n : ℕ) → Legible rows E s p n → (c : ℕ) → judged_by (places_below n) rows E s p c ≡ wrong rows E s p c
unfolding judged_by wrong
judged_wrong rows E s p n l c = go (bool? (roomy (length rows) E s c)) (bool? (tree_rows (rows_told (take (3 * E) rows)))) (bool? (suits_to (old_tree rows E) E s p c))
  where
    go : (roomy (length rows) E s c ≡ true) ⊎ (roomy (length rows) E s c ≡ false) → (tree_rows (rows_told (take (3 * E) rows)) ≡ true) ⊎ (tree_rows (rows_told (take (3 * E) rows)) ≡ false)
        → (suits_to (old_tree rows E) E s p c ≡ true) ⊎ (suits_to (old_tree rows E) E s p c ≡ false) → judged_by (places_below n) rows E s p c ≡ wrong rows E s p c
    go (inr a) b d = rw a
    go (inl a) (inr b) d = rw (a, l.old, b)
    go (inl a) (inl b) d = last d
      where
        long : 3 * E ≤ length rows
        long = roomy_long (length rows) E s c a

        is : first_rows (places_below n) E rows ≡ rows_of (old_tree rows E)
        is = old_told rows E s p n l b

        tree : tree_rows (first_rows (places_below n) E rows) ≡ true
        tree = rw l.old b

        fit : fits_to (places_below n) rows E s p c ≡ suits_to (old_tree rows E) E s p c
        fit = fits_suit rows E s p n l long is c

        last : (suits_to (old_tree rows E) E s p c ≡ true) ⊎ (suits_to (old_tree rows E) E s p c ≡ false) → judged_by (places_below n) rows E s p c ≡ wrong rows E s p c
        last (inr d) = rw (a, tree, b, fit, d)
        last (inl d) =
            let t = list_told rows E s p n l long is c d in
            let q : pairs (apart_cut (first_rows (places_below n) E rows)) (cuts_to (places_below n) s p c) ≡ pairs apart? (splices_to (old_tree rows E) s p c) = rw (is, t.cuts) (pairs_cut (old_tree rows E) (splices_to (old_tree rows E) s p c) (suits_fit (old_tree rows E) E s p c d)) in
            rw (a, tree, b, fit, d, q)

-- the answer of the definition is the refusal, if there is one
pub answer_wrong : (rows marks s p : List ℕ) (k : ℕ) → wrong rows (length marks) s p (length s / 6) ≡ k → (k ≡ 0 → ⊥) → splice_list rows marks s p ≡ refused k
unfolding wrong splice_list ◌>>=◌ refuse
answer_wrong rows marks s p k e h = go (limited (length marks) s p (length s / 6)) (roomy (length rows) (length marks) s (length s / 6)) (tree_rows (rows_told (take (3 * length marks) rows))) (suits_to (old_tree rows (length marks)) (length marks) s p (length s / 6)) (pairs apart? (splices_to (old_tree rows (length marks)) s p (length s / 6))) e
  where
    go : (a b c d f : Bool) → first_wrong a b c d f ≡ k
        → (refuse 1 (not a) >>= λ _. refuse 2 (not b) >>= λ _. refuse 3 (not c) >>= λ _. refuse 4 (not d) >>= λ _. refuse 5 (not f) >>= λ _. gives (rewritten rows (old_tree rows (length marks)) (splices_to (old_tree rows (length marks)) s p (length s / 6)) (3 * (length marks + rows_to s (length s / 6))))) ≡ refused k
    go true true true true true z = absurd (h (sym z))
    go true true true true false z = ap refused z
    go true true true false f z = ap refused z
    go true true false d f z = ap refused z
    go true false c d f z = ap refused z
    go false b c d f z = ap refused z

-- where none is wrong, the list that is read is apart, and the answer is what it leaves
pub record Right (rows : List ℕ) (e : ℕ) (s p : List ℕ) (c : ℕ) : Type 0 where
  pub limits : limited e s p c ≡ true
  pub room : roomy (length rows) e s c ≡ true
  pub tree : tree_rows (rows_told (take (3 * e) rows)) ≡ true
  pub suits : suits_to (old_tree rows e) e s p c ≡ true
  pub apart : AllApart (old_tree rows e) (splices_to (old_tree rows e) s p c)

suits_each : (old : Tree ℕ) (E : ℕ) (s p : List ℕ) (k : ℕ) → suits_to old E s p k ≡ true → each (fits? old) (splices_to old s p k) ≡ true
unfolding suits_to suits_at splices_to each
suits_each old E s p zero z = refl
suits_each old E s p (suc k) z =
    let x = both_true (suits_at old E s p k) (suits_to old E s p k) z in
    rw ((both_true (tells_at E s p k) (fits? old (splice_at old s p k)) x.0).1, suits_each old E s p k x.1)

-- a list of splices that fit is apart just where each pair is
pub suits_apart : (old : Tree ℕ) (E : ℕ) (s p : List ℕ) (k : ℕ) → suits_to old E s p k ≡ true → (pairs apart? (splices_to old s p k) ≡ true) ↔ AllApart old (splices_to old s p k)
unfolding all_apart?
suits_apart old E s p k z =
    let e : all_apart? old (splices_to old s p k) ≡ pairs apart? (splices_to old s p k) = rw (suits_each old E s p k z) in
    let a = says_all_apart old (splices_to old s p k) in
    (λ x. a.0 (e ∙ x), λ x. sym e ∙ a.1 x)

pub none_right : (rows : List ℕ) (e : ℕ) (s p : List ℕ) (c : ℕ) → wrong rows e s p c ≡ 0 → Right rows e s p c
unfolding wrong
none_right rows e s p c z =
    let x = none_wrong (limited e s p c) (roomy (length rows) e s c) (tree_rows (rows_told (take (3 * e) rows))) (suits_to (old_tree rows e) e s p c) (pairs apart? (splices_to (old_tree rows e) s p c)) z in
    record { limits = x.0; room = x.1; tree = x.2; suits = x.3; apart = (suits_apart (old_tree rows e) e s p c x.3).0 x.4 }

pub answer_right : (rows marks s p : List ℕ) → Right rows (length marks) s p (length s / 6)
    → splice_list rows marks s p ≡ gives (rewritten rows (old_tree rows (length marks)) (splices_to (old_tree rows (length marks)) s p (length s / 6)) (3 * (length marks + rows_to s (length s / 6))))
unfolding splice_list ◌>>=◌ refuse
answer_right rows marks s p r = rw (r.limits, r.room, r.tree, r.suits, (suits_apart (old_tree rows (length marks)) (length marks) s p (length s / 6) r.suits).1 r.apart)
