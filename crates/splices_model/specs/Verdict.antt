-- Whether a list of splices in words fits the old tree and is apart, told in rows; and the law that this is so just where `orders` says so.
-- Assumes nothing.
use Rattle.std.specs.List.{list_all, range_with_len}
use Rattle.std.proofs.Math.Bool.{and-true, and-false}
use Rattle.std.specs.Prelude.{◌≡◌, refl, Bool, true, false, cond, not, ◌&&◌, List, [], ◌∷◌, ◌++◌, map, ◌⊎◌, length, get_or, leb, ltb, eqb}
use Rattle.std.proofs.Common.{sym, ◌∙◌, append_assoc, append-nil, inl, inr, arith, add-zero, add_comm, zero-add, suc-add, leb-true, ltb-true, eqb-true, lt-ltb, le-ltb, le-leb, eq-eqb}
use Rattle.std.proofs.Math.Path.{ap}
use Rattle.std.proofs.Math.Option
use Rattle.std.proofs.Math.Option.{Option, none, some}
use Prim.Native.Nat.{ℕ, zero, suc, ◌+◌, ◌*◌, ◌^◌, ◌≤◌, ◌<◌}
use Rattle.std.proofs.lemmas.Bool.{lt-leb}
use Rattle.orders.specs.Lists.{All}
use Rattle.orders.specs.ListLaws.{both_true, lt_or_le, before, inside, after, zone?}
use Rattle.orders.specs.Tree.{Tree, Trees, node, token, nil, cons, list, Path, resolve, adjust, shift, splice}
use Rattle.orders.proofs.TreeLaws.{adjust_shift, shift_before, shift_inside, shift_after}
use Rattle.orders.specs.Splices.{Splice, Fits}
use Rattle.orders.proofs.Check.{each, pairs, enters?, run?, fits?, apart?}
use Rattle.rows_model.specs.Row.{Row, owes, rows_of, rows_in, rows_all, triples, first_rows, trees_in}
use Rattle.rows_model.specs.Place.{place, child_row}
use Rattle.rows_model.proofs.RowLaws.{children_few, trees_count}
use Rattle.rows_model.proofs.PlaceLaws.{child_at, place_lt, place_bound}
use Rattle.rows_model.proofs.Moves.{adjust_place}
use Rattle.rows_model.proofs.Words.{node_at, token_at, rows_many}
use Rattle.splices_model.specs.Cuts.{Cut, cut_of, cut_at, cuts_to, part_at, Stands}
use Rattle.splices_model.specs.Step.{same_place}
use Rattle.splices_model.specs.Bounds.{Bounded, BoundedAll, rows_to}

-- ── Rows that spell trees ───────────────────────────────────────────────────────────────────────────────────

-- the elements still owed behind rows, where so many are owed before them
unfoldable pub owed : ℕ → List Row → ℕ
owed o [] = o
owed zero (r ∷ rs) = owed (owes r) rs
owed (suc o) (r ∷ rs) = owed (o + owes r) rs

-- whole trees: nothing is owed behind them
unfoldable pub closed : List Row → Bool
closed rs = eqb (owed 0 rs) 0

-- one whole tree
unfoldable pub tree_rows : List Row → Bool
tree_rows rs = closed rs && eqb (trees_in rs) 1

-- ── One splice ──────────────────────────────────────────────────────────────────────────────────────────────

-- the words of splice j are in bounds, where the old tree has E rows
unfoldable pub bounded_at : ℕ → List ℕ → List ℕ → ℕ → Bool
bounded_at E splices prepared j =
    ltb (get_or splices (6 * j + 1) 0) E
    && (leb (get_or splices (6 * j + 2) 0) (get_or splices (6 * j + 3) 0)
    && (leb (get_or splices (6 * j + 3) 0) E && leb (3 * get_or splices (6 * j + 4) 0 + 3 * get_or splices (6 * j + 5) 0) (length prepared)))

-- its parent is a node with so many children
unfoldable pub has_run_at : List ℕ → List ℕ → ℕ → Bool
has_run_at rows splices j = leb 2147483648 (get_or rows (3 * get_or splices (6 * j + 1) 0) 0) && leb (get_or splices (6 * j + 3) 0) (get_or rows (3 * get_or splices (6 * j + 1) 0 + 1) 0)

-- splice j fits the old tree, and its prepared rows spell trees
unfoldable pub fit_at : List ℕ → List ℕ → ℕ → List ℕ → List ℕ → ℕ → Bool
fit_at text rows E splices prepared j = bounded_at E splices prepared j && (has_run_at rows splices j && closed (triples text (part_at splices prepared j)))

-- each of the first k does
unfoldable pub fits_to : List ℕ → List ℕ → ℕ → List ℕ → List ℕ → ℕ → Bool
fits_to text rows E splices prepared zero = true
fits_to text rows E splices prepared (suc k) = fit_at text rows E splices prepared k && fits_to text rows E splices prepared k

-- ── Two splices ─────────────────────────────────────────────────────────────────────────────────────────────

-- the row x is one of those that s deletes
unfoldable pub enters_cut : List Row → Cut → ℕ → Bool
enters_cut rs s x = leb (child_row rs s.parent s.from) x && ltb x (child_row rs s.parent s.to)

-- two runs in one parent overlap
unfoldable pub overlap_cut : Cut → Cut → Bool
overlap_cut s t = eqb s.parent t.parent && (ltb s.from t.to && ltb t.from s.to)

-- two splices of the old tree, whose rows are rs, are apart
unfoldable pub apart_cut : List Row → Cut → Cut → Bool
apart_cut rs s t = not (eqb s.number t.number) && (not (enters_cut rs s t.parent) && (not (enters_cut rs t s.parent) && not (overlap_cut s t)))

-- ── The list ────────────────────────────────────────────────────────────────────────────────────────────────

-- the slices are within the limits, where the old tree has E rows: six words for each of c splices
unfoldable pub limited : ℕ → List ℕ → List ℕ → ℕ → Bool
limited E splices prepared c = eqb (length splices) (6 * c) && (ltb c (2 ^ 15) && (ltb E (2 ^ 16) && ltb (length prepared) (3 * 2 ^ 16)))

-- there is room for its rows with all that come in: so many words are there, and rows are numbered in 16 bits
unfoldable pub roomy : ℕ → ℕ → List ℕ → ℕ → Bool
roomy long E splices c = leb (3 * E + 3 * rows_to splices c) long && ltb (E + rows_to splices c) (2 ^ 16)

-- what both say
pub record Room (long E : ℕ) (splices prepared : List ℕ) (c : ℕ) : Type 0 where
  pub whole : length splices ≡ 6 * c
  pub few : c < 2 ^ 15
  pub short : length prepared < 3 * 2 ^ 16
  pub words : 3 * E + 3 * rows_to splices c ≤ long
  pub rows : E + rows_to splices c < 2 ^ 16

pub limited_is : (E : ℕ) (splices prepared : List ℕ) (c : ℕ) → limited E splices prepared c ≡ true → (length splices ≡ 6 * c) × (c < 2 ^ 15) × (E < 2 ^ 16) × (length prepared < 3 * 2 ^ 16)
unfolding limited
limited_is E splices prepared c t =
    let x = both_true _ _ t in
    let y = both_true _ _ x.1 in
    let z = both_true _ _ y.1 in
    (eqb-true _ _ x.0, ltb-true _ _ y.0, ltb-true _ _ z.0, ltb-true _ _ z.1)

pub room_is : (long E : ℕ) (splices prepared : List ℕ) (c : ℕ) → limited E splices prepared c ≡ true → roomy long E splices c ≡ true → Room long E splices prepared c
unfolding roomy
room_is long E splices prepared c l t =
    let w = limited_is E splices prepared c l in
    let x = both_true _ _ t in
    record { whole = w.0; few = w.1; short = w.3; words = leb-true _ _ x.0; rows = ltb-true _ _ x.1 }

-- the number of the first refusal, by what is right: 0 if all is
abbrev pub first_wrong : Bool → Bool → Bool → Bool → Bool → ℕ
first_wrong limited roomy tree fit apart = cond limited (cond roomy (cond tree (cond fit (cond apart 0 5) 4) 3) 2) 1

-- the first refusal of a list, 0 if it fits the old tree and is apart, and there is room
unfoldable pub judged_by : List ℕ → List ℕ → ℕ → List ℕ → List ℕ → ℕ → ℕ
judged_by text rows E splices prepared c =
    first_wrong (limited E splices prepared c) (roomy (length rows) E splices c) (tree_rows (first_rows text E rows)) (fits_to text rows E splices prepared c) (pairs (apart_cut (first_rows text E rows)) (cuts_to text splices prepared c))

-- ── Rows of trees are closed ────────────────────────────────────────────────────────────────────────────────

mutual
  unfolding list owed

  owed_tree : (t : Tree ℕ) (o : ℕ) (r : List Row) → owed (suc o) (rows_of t ++ r) ≡ owed o r
  owed_tree (token k x) o r = rw (add-zero o)
  owed_tree (node k cs) o r = ap (λ n. owed n (rows_in cs ++ r)) (add_comm o (length (list cs))) ∙ owed_trees cs o r

  owed_trees : (cs : Trees ℕ) (o : ℕ) (r : List Row) → owed (length (list cs) + o) (rows_in cs ++ r) ≡ owed o r
  owed_trees nil o r = rw zero-add
  owed_trees (cons t ts) o r = rw (suc-add (length (list ts)) o, append_assoc) (owed_tree t (length (list ts) + o) (rows_in ts ++ r) ∙ owed_trees ts o r)

owed_one : (t : Tree ℕ) (r : List Row) → owed 0 (rows_of t ++ r) ≡ owed 0 r
unfolding owed
owed_one (token k x) r = refl
owed_one (node k cs) r = ap (λ n. owed n (rows_in cs ++ r)) (sym (add-zero (length (list cs)))) ∙ owed_trees cs 0 r

owed_none : (ts : List (Tree ℕ)) → owed 0 (rows_all ts) ≡ 0
unfolding owed
owed_none [] = refl
owed_none (t ∷ ts) = owed_one t (rows_all ts) ∙ owed_none ts

pub trees_closed : (ts : List (Tree ℕ)) → closed (rows_all ts) ≡ true
unfolding closed
trees_closed ts = eq-eqb (owed 0 (rows_all ts)) 0 (owed_none ts)

pub tree_closed : (t : Tree ℕ) → tree_rows (rows_of t) ≡ true
unfolding tree_rows
tree_closed t =
    let one : rows_of t ++ [] ≡ rows_of t = append-nil (rows_of t) in
    let c : closed (rows_of t) ≡ true = rw one at (trees_closed (t ∷ [])) in
    rw c (eq-eqb (trees_in (rows_of t)) 1 (rw one at (trees_count (t ∷ []))))

-- ── A path enters a deleted child just where its row is one of those deleted ────────────────────────────────

gone : {X : Type 0} → Option X → Bool
gone none = true
gone (some x) = false

gone_map : {X Y : Type 0} (f : X → Y) (o : Option X) → gone (Option.map f o) ≡ gone o
unfolding gone
gone_map f none = refl
gone_map f (some x) = refl

gone_shift : (a b n i : ℕ) → gone (shift a b n i) ≡ (leb a i && ltb i b)
unfolding gone
gone_shift a b n i = elim (zone? i a b) [
  | before h ↦ rw (shift_before a b n i h, lt-leb a i h)
  | inside h k ↦ rw (shift_inside a b n i h k, le-leb a i h, lt-ltb i b k)
  | after h k ↦ rw (shift_after a b n i h k, le-leb a i h, le-ltb i b k)
]

gone_adjust : (p : Path) (a b n : ℕ) (e : Path) → gone (adjust p a b n e) ≡ enters? p a b e
unfolding gone adjust enters?
gone_adjust [] a b n [] = refl
gone_adjust [] a b n (i ∷ e) = ap gone (adjust_shift a b n i e) ∙ (gone_map (λ j. j ∷ e) (shift a b n i) ∙ gone_shift a b n i)
gone_adjust (j ∷ p) a b n [] = refl
gone_adjust (j ∷ p) a b n (i ∷ e) = go (eqb i j) (gone_adjust p a b n e)
  where
    go : (c : Bool) → gone (adjust p a b n e) ≡ enters? p a b e → gone (cond c (Option.map (λ r. i ∷ r) (adjust p a b n e)) (some (i ∷ e))) ≡ (c && enters? p a b e)
    go true z = gone_map (λ r. i ∷ r) (adjust p a b n e) ∙ z
    go false z = refl

pub enters_cut_lem : (old : Tree ℕ) (s : Splice ℕ) (e : Path) (v : Tree ℕ) → Fits old s → resolve e old ≡ some v → enters_cut (rows_of old) (cut_of old s) (place e old) ≡ enters? s.parent s.from s.to e
unfolding enters_cut cut_of
enters_cut_lem old s e v h f =
    let c = child_at s.parent old h.kind h.children h.found in
    rw (← c s.from (omega (arith, h.ordered, h.within)), ← c s.to h.within)
    (sym (gone_shift (place (s.parent ++ (s.from ∷ [])) old) (place (s.parent ++ (s.to ∷ [])) old) 0 (place e old))
    ∙ (ap gone (sym (adjust_place s.parent old s.from s.to [] e v h f)) ∙ (gone_map (λ r. place r (splice s.parent s.from s.to [] old)) (adjust s.parent s.from s.to 0 e) ∙ gone_adjust s.parent s.from s.to 0 e)))

-- ── Two splices that fit are apart just where their rows say so ─────────────────────────────────────────────

apart_cut_lem : (old : Tree ℕ) (s t : Splice ℕ) → Fits old s → Fits old t → apart_cut (rows_of old) (cut_of old s) (cut_of old t) ≡ apart? s t
unfolding apart_cut apart? overlap_cut cut_of
apart_cut_lem old s t h k =
    rw (enters_cut_lem old s t.parent (node k.kind k.children) h k.found, enters_cut_lem old t s.parent (node h.kind h.children) k h.found, same_place old t s (node k.kind k.children, k.found) (node h.kind h.children, h.found))

each_cut : (old : Tree ℕ) (s : Splice ℕ) (D : List (Splice ℕ)) → Fits old s → All (Fits old) D → each (apart_cut (rows_of old) (cut_of old s)) (map (cut_of old) D) ≡ each (apart? s) D
unfolding each
each_cut old s [] h k = refl
each_cut old s (t ∷ D) h k = rw (apart_cut_lem old s t h k.0, each_cut old s D h k.1)

pub pairs_cut : (old : Tree ℕ) (D : List (Splice ℕ)) → All (Fits old) D → pairs (apart_cut (rows_of old)) (map (cut_of old) D) ≡ pairs apart? D
unfolding pairs
pairs_cut old [] h = refl
pairs_cut old (s ∷ D) h = rw (each_cut old s D h.0 h.1, pairs_cut old D h.1)

-- ── A test of the first numbers ─────────────────────────────────────────────────────────────────────────────

and-swap : (x y z : Bool) → (x && (y && z)) ≡ (y && (x && z))
and-swap true y z = refl
and-swap false true z = refl
and-swap false false z = refl

all_from : (p : ℕ → Bool) (a n : ℕ) → list_all p (range_with_len a (suc n)) ≡ (p (a + n) && list_all p (range_with_len a n))
all_from p a zero = rw (add-zero a)
all_from p a (suc n) =
    let e : a + 1 + n ≡ a + suc n = omega arith in
    rw (all_from p (a + 1) n, e) (and-swap (p a) (p (a + suc n)) (list_all p (range_with_len (a + 1) n)))

-- the library's test of each number below n is one that asks the last first
pub all_alike : (p q : ℕ → Bool) → q 0 ≡ true → ((c : ℕ) → q (suc c) ≡ (p c && q c)) → (n : ℕ) → list_all p (range_with_len 0 n) ≡ q n
all_alike p q z s zero = sym z
all_alike p q z s (suc n) = all_from p 0 n ∙ rw (zero-add n, all_alike p q z s n) (sym (s n))

-- ── A splice fits the old tree just where its words say so ──────────────────────────────────────────────────

node_fits : (P E a b x y K M : ℕ) (c : Bool) → P < E → x ≤ y → 2147483648 ≤ K → M ≤ E → c ≡ true → ((ltb P E && (leb a b && (leb b E && leb x y))) && ((leb 2147483648 K && leb b M) && c)) ≡ (leb a b && leb b M)
node_fits P E a b x y K M c h k l m z = rw (lt-ltb P E h, le-leb x y k, le-leb 2147483648 K l, z) (go (lt_or_le M b))
  where
    go : (M < b) ⊎ (b ≤ M) → ((leb a b && (leb b E && true)) && (leb b M && true)) ≡ (leb a b && leb b M)
    go (inl w) = rw (lt-leb b M w) (and-false (leb a b && (leb b E && true)) ∙ sym (and-false (leb a b)))
    go (inr w) = rw (le-leb b M w, le-leb b E (omega arith)) (and-true (leb a b && true))

token_fits : (X : Bool) (K : ℕ) (y c : Bool) → K < 2147483648 → (X && ((leb 2147483648 K && y) && c)) ≡ false
token_fits X K y c h = rw (lt-leb 2147483648 K h) (and-false X)

module _ (text : List ℕ) (old : Tree ℕ) (rows : List ℕ) (E : ℕ) (splices prepared : List ℕ) (long : 3 * E ≤ length rows) (e : first_rows text E rows ≡ rows_of old) where
  pub fit_told : (j : ℕ) (s : Splice ℕ) → cut_at text splices prepared j ≡ cut_of old s → Stands old s → 3 * get_or splices (6 * j + 4) 0 + 3 * get_or splices (6 * j + 5) 0 ≤ length prepared
      → fit_at text rows E splices prepared j ≡ fits? old s
  unfolding fit_at bounded_at has_run_at fits? run?
  fit_told j s f u b = go u.0 u.1
    where
      P : ℕ
      P = place s.parent old

      row : get_or splices (6 * j + 1) 0 ≡ P
      row = unfold cut_at cut_of in ap (λ c. c.parent) f

      start : get_or splices (6 * j + 2) 0 ≡ s.from
      start = unfold cut_at cut_of in ap (λ c. c.from) f

      end : get_or splices (6 * j + 3) 0 ≡ s.to
      end = unfold cut_at cut_of in ap (λ c. c.to) f

      told : triples text (part_at splices prepared j) ≡ rows_all s.prepared
      told = unfold cut_at cut_of in ap (λ c. c.rows) f

      spelt : closed (triples text (part_at splices prepared j)) ≡ true
      spelt = ap closed told ∙ trees_closed s.prepared

      go : (v : Tree ℕ) → resolve s.parent old ≡ some v → fit_at text rows E splices prepared j ≡ run? s.from s.to (resolve s.parent old)
      go (token k x) g =
          let h : get_or rows (3 * get_or splices (6 * j + 1) 0) 0 < 2147483648 = rw row (token_at text E rows old long e s.parent k x g).0 in
          rw g (token_fits (bounded_at E splices prepared j) (get_or rows (3 * get_or splices (6 * j + 1) 0) 0) (leb (get_or splices (6 * j + 3) 0) (get_or rows (3 * get_or splices (6 * j + 1) 0 + 1) 0)) (closed (triples text (part_at splices prepared j))) h)
      go (node k cs) g =
          let w = node_at text E rows old long e s.parent k cs g in
          let many = rows_many text E rows old long e in
          rw (g, row, start, end, ← w.2)
          (node_fits P E s.from s.to (3 * get_or splices (6 * j + 4) 0 + 3 * get_or splices (6 * j + 5) 0) (length prepared) (get_or rows (3 * P) 0) (get_or rows (3 * P + 1) 0) (closed (triples text (part_at splices prepared j))) (omega (arith, place_lt s.parent old (node k cs) g)) b w.0 (omega (arith, w.2, children_few cs, place_bound s.parent old (node k cs) g)) spelt)

-- ── What a good verdict says of the words ───────────────────────────────────────────────────────────────────

pub bounded_is : (E : ℕ) (splices prepared : List ℕ) (j : ℕ) → bounded_at E splices prepared j ≡ true → 6 * j + 5 < length splices → Bounded E splices prepared j
unfolding bounded_at
bounded_is E splices prepared j t h =
    let x = both_true _ _ t in
    let y = both_true _ _ x.1 in
    let z = both_true _ _ y.1 in
    record { inside = h; parent = ltb-true _ _ x.0; ordered = leb-true _ _ y.0; within = leb-true _ _ z.0; part = leb-true _ _ z.1 }

pub fits_each : (text rows : List ℕ) (e : ℕ) (s p : List ℕ) (c j : ℕ) → j < c → fits_to text rows e s p c ≡ true → fit_at text rows e s p j ≡ true
unfolding fits_to
fits_each text rows e s p zero j h z = absurd (omega arith)
fits_each text rows e s p (suc c) j h z =
    let x = both_true (fit_at text rows e s p c) (fits_to text rows e s p c) z in
    elim (lt_or_le j c) [ inl w ↦ fits_each text rows e s p c j w x.1 | inr w ↦ let q : j ≡ c = omega arith in rw q x.0 ]

-- what is right where nothing is wrong
pub none_wrong : (a b c d e : Bool) → first_wrong a b c d e ≡ 0 → (a ≡ true) × (b ≡ true) × (c ≡ true) × (d ≡ true) × (e ≡ true)
none_wrong true true true true true z = (refl, refl, refl, refl, refl)
none_wrong true true true true false z = absurd (omega arith)
none_wrong true true true false e z = absurd (omega arith)
none_wrong true true false d e z = absurd (omega arith)
none_wrong true false c d e z = absurd (omega arith)
none_wrong false b c d e z = absurd (omega arith)

-- each splice that is judged to fit has its words in bounds
pub judged_bounds : (text rows : List ℕ) (E : ℕ) (splices prepared : List ℕ) (c : ℕ) → judged_by text rows E splices prepared c ≡ 0 → Room (length rows) E splices prepared c × BoundedAll E splices prepared c
unfolding judged_by fit_at
judged_bounds text rows E splices prepared c z =
    let x = none_wrong (limited E splices prepared c) (roomy (length rows) E splices c) (tree_rows (first_rows text E rows)) (fits_to text rows E splices prepared c) (pairs (apart_cut (first_rows text E rows)) (cuts_to text splices prepared c)) z in
    let w = room_is (length rows) E splices prepared c x.0 x.1 in
    (w, record { all = λ j h. bounded_is E splices prepared j (both_true (bounded_at E splices prepared j) _ (fits_each text rows E splices prepared c j h x.3)).0 (omega (arith, w.whole)) })
