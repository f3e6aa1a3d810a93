-- The loops: for each its invariant, that it holds at the start, after a turn, and what it says at the end.
-- Assumes nothing.
use Rattle.std.specs.List.{sum, sum_by, range_with_len}
use Rattle.std.proofs.lemmas.List.Sums.{sum_by-cons}
use mathlib.Core.Path.{◌≡◌, refl, sym, ap, ◌∙◌}
use mathlib.Core.Logic.{inl, inr}
use mathlib.Core.List.{List, [], ◌∷◌, ◌++◌, map, append-nil}
use Rattle.std.specs.Prelude.{None, Some}
use Prim.Native.Nat.{ℕ, zero, suc, ◌+◌, ◌-◌, ◌*◌, ◌/◌, ◌%◌, ◌^◌, ◌≤◌, ◌<◌, max}
use native.Mathlib.Omega.{arith}
use native.Mathlib.Nat.{zero-add}
use native.Mathlib.Numerals.{add-one}
use borrow.Author.Tests.{lt-ltb, le-ltb}
use borrow.Rule.Slice.PartMut.{mid_of, post_of, put_mid}
use lib.ListN.{length, get_or, set, take, drop, take-append-drop, length-set, length-map, length-drop, drop_of_length-le}
use lib.Seq.{get_or-set_same, get_or-set_other, paste, paste-suc, take-paste, drop-paste, take_all, length-take-le, get_or-take, take-set-lt, drop-set-lt, drop_at, ext_get_or}
use Rattle.std.proofs.lemmas.List.{set-get_or}
use Rattle.orders.specs.Lists.{All}
use Rattle.orders.specs.Tree.{modify}
use Rattle.orders.specs.ListLaws.{lt_or_le, map_take, map_drop, take_modify, drop_modify_before, modify_left}
use Rattle.orders.proofs.TreeLaws.{shift_before, shift_inside, shift_after}
use Rattle.definition_laws.specs.Basics.{All-drop, up_from, up_at, up_long, get_d_map}
use Rattle.words.specs.Parts.{spliced, get_d_above, get_d_inside, length_spliced, take_spliced}
use Rattle.rows_model.specs.Row.{Row, owes, text_length, row_in, first_rows, triples, skip, trees_from, trees_in, bytes, opened, height_in, height}
use Rattle.rows_model.specs.Place.{rows_after, child_row, between, subtree, remeasure, splice_rows, moved_mark}
use Rattle.rows_model.proofs.RowLaws.{skip_none, height_closed}
use Rattle.rows_model.proofs.Marks.{marks_below}
use Rattle.rows_model.proofs.Words.{rows_summed, node_row, token_owes, token_length, first_at, first_end, length_triples, triples_at, triples_end, triples_append, triples_take, triples_drop, triples_set, length_first, words_between}
use Rattle.rows_syntax_node.specs.Promises.{Counted, Measured, After, ChildAt, TreesIn, TreesBetween, height_by, Height, Part, Appended, Spliced, Moved, Shifted, FirstMoved}
use Rattle.rows_syntax_node.specs.Rising.{Rising, some_inside, get_moved, drop_rising, moved_rising}

-- ── One row ─────────────────────────────────────────────────────────────────────────────────────────────────

module _ (rows : List ℕ) (i : ℕ) where
  pub count_token : {k : ℕ} → (k ≡ get_or rows (3 * i) 0) × (k < 2 ^ 32) → k < 2147483648 → Counted rows i 0
  count_token e h = record { count = λ text. sym (token_owes text _ _ _ (rw e.0 at h)); small = omega arith }

  pub count_node : {k r : ℕ} → (k ≡ get_or rows (3 * i) 0) × (k < 2 ^ 32) → 2147483648 ≤ k → (r ≡ get_or rows (3 * i + 1) 0) × (r < 2 ^ 32) → Counted rows i r
  count_node e h f = record { count = λ text. f.0 ∙ sym (ap owes (node_row text _ _ _ (rw e.0 at h))); small = f.1 }

  pub length_token : {k r : ℕ} → (k ≡ get_or rows (3 * i) 0) × (k < 2 ^ 32) → k < 2147483648 → (r ≡ get_or rows (3 * i + 1) 0) × (r < 2 ^ 32) → Measured rows i r
  length_token e h f = record { own = λ text. f.0 ∙ sym (token_length text _ _ _ (rw e.0 at h)); small = f.1 }

  pub length_node : {k : ℕ} → (k ≡ get_or rows (3 * i) 0) × (k < 2 ^ 32) → 2147483648 ≤ k → Measured rows i 0
  length_node e h = record { own = λ text. sym (ap text_length (node_row text _ _ _ (rw e.0 at h))); small = omega arith }

-- ── The next trees ──────────────────────────────────────────────────────────────────────────────────────────

-- o elements are owed at row i
pub record Owing (rows : List ℕ) (n at owed i o : ℕ) : Type 0 where
  pub low : at ≤ i
  pub high : i ≤ n
  pub small : o ≤ 2 ^ 32 * (i + 1)
  pub rest : (text : List ℕ) → rows_after (first_rows text n rows) at owed ≡ i + skip o (drop i (first_rows text n rows))

pub owing_start : (rows : List ℕ) (n at owed : ℕ) → at ≤ n → owed < 2 ^ 32 → Owing rows n at owed at owed
unfolding rows_after
owing_start rows n at owed h k = record { low = omega arith; high = h; small = omega arith; rest = λ text. refl }

skip_cons : (o : ℕ) (l l' : List Row) (r : Row) → l ≡ r ∷ l' → (o ≡ 0 → ⊥) → skip o l ≡ suc (skip (o - 1 + owes r) l')
skip_cons zero l l' r e h = absurd (h refl)
skip_cons (suc o) l l' r e h = let q : suc o - 1 ≡ o = omega arith in rw (e, q)

module _ {rows : List ℕ} {n at owed i o : ℕ} (v : Owing rows n at owed i o) (long : 3 * n ≤ length rows) where
  pub owing_next : {m : ℕ} → i < n → (o ≡ 0 → ⊥) → Counted rows i m → Owing rows n at owed (i + 1) (o - 1 + m)
  owing_next {m} h k c =
      record {
        low = omega (arith, v.low);
        high = omega arith;
        small = omega (arith, v.small, c.small);
        rest = λ text. rw (add-one i) (v.rest text ∙ rw (skip_cons o _ _ (row_in text rows i) (first_at text n rows long i h) k, ← c.count text) (omega arith));
      }

  -- where no row is left, or nothing is owed
  pub owing_out : n ≤ i → After rows n at owed n
  owing_out h = record { row = λ text. sym (v.rest text ∙ rw (first_end text n rows long i h) (omega (arith, v.high))); low = omega (arith, v.low, v.high); high = omega arith }

  pub owing_done : o ≡ 0 → After rows n at owed i
  owing_done z =
      record { row = λ text. sym (v.rest text ∙ rw z (ap (λ k. i + k) (skip_none (drop i (first_rows text n rows))) ∙ omega arith)); low = v.low; high = v.high }

pub child_found : {rows : List ℕ} {n parent i r : ℕ} → After rows n (parent + 1) i r → ChildAt rows n parent i r
unfolding child_row
child_found {rows} {n} {parent} {i} v = record { row = λ text. v.row text ∙ rw (add-one parent); low = omega (arith, v.low); high = v.high }

-- ── Marks ───────────────────────────────────────────────────────────────────────────────────────────────────

-- the first i marks are numbered
pub record Numbering (marks : List ℕ) (first : ℕ) (l : List ℕ) (i : ℕ) : Type 0 where
  pub inside : i ≤ length marks
  pub long : length l ≡ length marks
  pub copied : l ≡ paste marks 0 (up_from first (length marks)) i

module _ {marks : List ℕ} {first : ℕ} {l : List ℕ} {i : ℕ} (v : Numbering marks first l i) where
  abbrev s : List ℕ
  s = up_from first (length marks)

  pub numbering_next : i < length l → Numbering marks first (set l i (first + i)) (i + 1)
  numbering_next h =
      let h' : i < length marks = omega (arith, v.long) in
      let g : get_or s i 0 ≡ first + i = up_at first (length marks) i h' in
      record {
        inside = omega arith;
        long = simp length-set v.long;
        copied = rw (v.copied, ← g, add-one i) (ap (λ (k : ℕ). set (paste marks 0 s i) k (get_or s i 0)) (sym (zero-add i)) ∙ paste-suc marks 0 s i 0 (omega arith) (omega (arith, up_long first (length marks))));
      }

  pub numbering_done : length l ≤ i → l ≡ up_from first (length marks)
  numbering_done k = v.copied ∙ rw (zero-add i, take_all i s (omega (arith, v.long, up_long first (length marks))), drop_of_length-le marks {i = i} (omega (arith, v.long))) (append-nil s)

module _ (p q m x : ℕ) (few : (p ≤ q) × (q < 2 ^ 16) × (m < 2 ^ 16) × (x < 2 ^ 16)) where
  pub mark_before : x < p → Moved p q m x x
  unfolding moved_mark
  mark_before h = record { mark = rw (shift_before p q m x h); small = omega arith }

  pub mark_inside : p ≤ x → x < q → Moved p q m x 0
  unfolding moved_mark
  mark_inside h k = record { mark = rw (shift_inside p q m x h k); small = omega arith }

  pub mark_after : p ≤ x → q ≤ x → Moved p q m x (x + m - (q - p))
  unfolding moved_mark
  mark_after h k = record { mark = rw (shift_after p q m x h k); small = omega arith }

-- that all are moved tells that they are in bounds
shifted_all : {marks : List ℕ} {p q m : ℕ} {l : List ℕ} → p ≤ q → l ≡ map (moved_mark p q m) marks → Shifted marks p q m l
shifted_all {marks} {p} {q} {m} h e = record { moved = e; below = λ n z g a. rw e (marks_below n p q m z h g marks a) }

-- the first i marks are moved
pub record Shifting (marks : List ℕ) (p q m : ℕ) (l : List ℕ) (i : ℕ) : Type 0 where
  pub inside : i ≤ length marks
  pub long : length l ≡ length marks
  pub copied : l ≡ paste marks 0 (map (moved_mark p q m) marks) i

module _ {marks : List ℕ} {p q m : ℕ} {l : List ℕ} {i : ℕ} (v : Shifting marks p q m l i) where
  -- a mark that the loop has not come to yet
  unmoved : i < length marks → get_or l i 0 ≡ get_or marks i 0
  unmoved h = rw v.copied (get_d_above marks 0 (map (moved_mark p q m) marks) i (omega arith) (omega (arith, length-map marks (moved_mark p q m))) 0 i (omega arith))

  pub shifting_next : {y : ℕ} → i < length l → Moved p q m (get_or l i 0) y → Shifting marks p q m (set l i y) (i + 1)
  shifting_next {y} h f =
      let h' : i < length marks = omega (arith, v.long) in
      let g : get_or (map (moved_mark p q m) marks) i 0 ≡ y = get_d_map (moved_mark p q m) marks i 0 0 h' ∙ sym (f.mark ∙ ap (moved_mark p q m) (unmoved h')) in
      record {
        inside = omega arith;
        long = simp length-set v.long;
        copied = rw (v.copied, ← g, add-one i) (ap (λ (k : ℕ). set (paste marks 0 (map (moved_mark p q m) marks) i) k (get_or (map (moved_mark p q m) marks) i 0)) (sym (zero-add i)) ∙ paste-suc marks 0 (map (moved_mark p q m) marks) i 0 (omega arith) (omega (arith, length-map marks (moved_mark p q m))));
      }

  pub shifting_done : p ≤ q → length l ≤ i → Shifted marks p q m l
  shifting_done h k =
      shifted_all h
      (v.copied ∙ rw (zero-add i, take_all i (map (moved_mark p q m) marks) (omega (arith, v.long, length-map marks (moved_mark p q m))), drop_of_length-le marks {i = i} (omega (arith, v.long))) (append-nil (map (moved_mark p q m) marks)))

-- ── Marks that rise ─────────────────────────────────────────────────────────────────────────────────────────

module _ {marks : List ℕ} {p : ℕ} (low : (0 < p) × Rising marks) where
  pub first_none : FirstMoved marks p 0
  first_none = record { inside = omega arith; before = λ i h. absurd (omega arith) }

  pub first_found : {target mark : ℕ} → (mark ≡ get_or marks target 0) × (mark < 2 ^ 32) → (mark ≡ 0 → ⊥) → mark ≤ p → FirstMoved marks p target
  first_found {target} e z h =
      let some : 0 < get_or marks target 0 = omega (arith, e.0) in
      record {
        inside = omega (arith, some_inside marks target some);
        before = λ i k. elim (lt_or_le (get_or marks i 0) p) [ inl l ↦ l | inr l ↦ omega (arith, e.0, low.1.order i target k (omega (arith, low.0)) some) ];
      }

-- a mark that stays where as many rows come in as go
mark_stays : (p q x : ℕ) → 0 < p → p ≤ q → (0 < x → q ≤ x) → moved_mark p q (q - p) x ≡ x
unfolding moved_mark
mark_stays p q zero z o h = rw (shift_before p q (q - p) 0 z)
mark_stays p q (suc x) z o h = rw (shift_after p q (q - p) (suc x) (omega (arith, h (omega arith))) (h (omega arith))) (omega (arith, h (omega arith)))

-- from a mark that stays on every mark stays
pub forget_done : {marks : List ℕ} {p q : ℕ} {l : List ℕ} {i : ℕ} → Shifting marks p q (q - p) l i → (0 < p) × (p ≤ q) × (q < 2 ^ 16) × All (λ x. x < 2 ^ 16) marks × Rising marks → i < length l → q ≤ get_or l i 0 → Shifted marks p q (q - p) (set l i (get_or l i 0))
forget_done {marks} {p} {q} {l} {i} v a h k =
    let out : List ℕ = map (moved_mark p q (q - p)) marks in
    let long : length out ≡ length marks = length-map marks (moved_mark p q (q - p)) in
    let here : q ≤ get_or marks i 0 = omega (arith, unmoved v (omega (arith, v.long))) in
    let later : (j : ℕ) → i ≤ j → 0 < get_or marks j 0 → q ≤ get_or marks j 0 = λ j b z. elim (lt_or_le i j) [ inl c ↦ omega (arith, a.4.order i j c (omega (arith, a.0, a.1)) z) | inr c ↦ let e : i ≡ j = omega arith in rw (← e) here ] in
    rw (set-get_or l i 0) (shifted_all a.1 (ext_get_or 0 l out (omega (arith, v.long)) (λ j b. elim (lt_or_le j i) [
      | inl c ↦ rw v.copied (get_d_inside marks 0 out i (omega (arith, v.inside)) (omega (arith, v.inside)) 0 j j c (sym (zero-add j)))
      | inr c ↦ rw v.copied (get_d_above marks 0 out i (omega (arith, v.inside)) (omega (arith, v.inside)) 0 j (omega arith)) ∙ sym (get_moved p q (q - p) a.0 a.1 marks j ∙ mark_stays p q (get_or marks j 0) a.0 a.1 (later j c))
    ])))

-- marks below p stay
front_stays : (p q m n : ℕ) (l : List ℕ) → ((i : ℕ) → i < n → get_or l i 0 < p) → map (moved_mark p q m) (take n l) ≡ take n l
unfolding moved_mark
front_stays p q m zero l h = refl
front_stays p q m (suc n) [] h = refl
front_stays p q m (suc n) (x ∷ l) h = rw (shift_before p q m x (h 0 (omega arith)), front_stays p q m n l (λ i k. h (suc i) (omega arith)))

-- marks before the element `first` stay, and those from there on are moved
module _ {marks : List ℕ} {p q m first : ℕ} (low : (0 < p) × (p ≤ q) × (q < 2 ^ 16) × (m < 2 ^ 16) × All (λ x. x < 2 ^ 16) marks × Rising marks) (v : FirstMoved marks p first) where
  rest_long : length (drop first marks) ≤ length marks - first
  rest_long = omega (arith, length-drop first marks)

  rest_is : mid_of first (length marks - first) marks ≡ drop first marks
  rest_is = take_all (length marks - first) (drop first marks) rest_long

  pub asks_forget : (0 < p) × (p ≤ q) × (q < 2 ^ 16) × All (λ x. x < 2 ^ 16) (mid_of first (length marks - first) marks) × Rising (mid_of first (length marks - first) marks)
  asks_forget = rw rest_is (low.0, low.1, low.2, All-drop (λ x. x < 2 ^ 16) first marks low.4, drop_rising first marks low.5)

  pub asks_shift : (p ≤ q) × (q < 2 ^ 16) × (m < 2 ^ 16) × All (λ x. x < 2 ^ 16) (mid_of first (length marks - first) marks)
  asks_shift = (low.1, low.2, low.3, asks_forget.3)

  module _ {moved : List ℕ} {k : ℕ} (z : m ≡ k) (s : Shifted (mid_of first (length marks - first) marks) p q k moved) where
    pub rising_shifted : Shifted marks p q m (put_mid first (length marks - first) marks moved)
    rising_shifted =
        let F : ℕ → ℕ = moved_mark p q m in
        let a : map F (take first marks) ≡ take first marks = front_stays p q m first marks v.before in
        let b : moved ≡ map F (drop first marks) = s.moved ∙ rw (rest_is, ← z) in
        let e : post_of first (length marks - first) marks ≡ [] = drop_of_length-le (drop first marks) {i = length marks - first} rest_long in
        shifted_all low.1 (sym (sym (take-append-drop first (map F marks)) ∙ rw (← map_take F first marks, ← map_drop F first marks, a, e, append-nil moved, b)))

    pub rising_risen : Rising (put_mid first (length marks - first) marks moved)
    rising_risen = rw rising_shifted.moved (moved_rising p q m low.0 low.1 marks low.5)

-- ── A run ───────────────────────────────────────────────────────────────────────────────────────────────────

-- the length of some rows' text as the library's sum
bytes_summed : (rs : List Row) → sum_by text_length rs ≡ bytes rs
bytes_summed [] = refl
bytes_summed (r ∷ rs) = sum_by-cons text_length r rs ∙ ap (λ (n : ℕ). text_length r + n) (bytes_summed rs)

module _ (text run : List ℕ) where
  -- how long the own text of row i is
  abbrev pub own_at : ℕ → ℕ
  own_at i = text_length (row_in text run i)

  pub own_summed : sum (map own_at (range_with_len 0 (length run / 3))) ≡ bytes (triples text run)
  own_summed = rows_summed text text_length run 0 (length run / 3) (zero-add (length run / 3)) ∙ bytes_summed (triples text run)

-- trees begun, and elements owed of the last
pub record Grouping (run : List ℕ) (trees o i : ℕ) : Type 0 where
  pub inside : 3 * i ≤ length run
  pub few : trees ≤ i
  pub small : o ≤ 2 ^ 32 * i
  pub rest : (text : List ℕ) → trees_in (triples text run) ≡ trees + trees_from o (drop i (triples text run))

trees_cons : (o : ℕ) (l l' : List Row) (r : Row) → l ≡ r ∷ l' → (o ≡ 0 → ⊥) → trees_from o l ≡ trees_from (o - 1 + owes r) l'
trees_cons zero l l' r e h = absurd (h refl)
trees_cons (suc o) l l' r e h = let q : suc o - 1 ≡ o = omega arith in rw (e, q)

module _ {run : List ℕ} {trees o i : ℕ} (v : Grouping run trees o i) where
  -- a tree begins where nothing is owed
  pub grouping_first : {m t k : ℕ} → i < length run / 3 → Counted run i m → o ≡ 0 → t ≡ trees + 1 → k ≡ o - 1 → Grouping run t (k + m) (i + 1)
  grouping_first {m} {k = k} h c z e f =
      let p : k + m ≡ m = omega arith in
      record {
        inside = omega arith;
        few = omega (arith, v.few);
        small = omega (arith, c.small);
        rest = λ text. rw (add-one i, p) (v.rest text ∙ rw (z, triples_at text i run (omega arith), ← c.count text) (omega arith));
      }

  pub grouping_next : {m t k : ℕ} → i < length run / 3 → Counted run i m → (o ≡ 0 → ⊥) → t ≡ trees → k ≡ o - 1 → Grouping run t (k + m) (i + 1)
  grouping_next h c z e f =
      record {
        inside = omega arith;
        few = omega (arith, v.few);
        small = omega (arith, v.small, c.small);
        rest = λ text. rw (add-one i, e, f) (v.rest text ∙ rw (trees_cons o _ _ (row_in text run i) (triples_at text i run (omega arith)) z, ← c.count text));
      }

  pub grouping_done : length run / 3 ≤ i → TreesIn run trees
  grouping_done h =
      record {
        count = λ text. sym (v.rest text ∙ rw (triples_end text i run (omega arith)) (omega arith));
        few = omega (arith, v.few, v.inside);
      }

-- a run that is a part of rows
pub trees_between : (rows run : List ℕ) (n p q r : ℕ) → (3 * n ≤ length rows) × (n < 2 ^ 16) × (p ≤ q) × (q ≤ n) → run ≡ take (3 * q - 3 * p) (drop (3 * p) rows) → TreesIn run r → TreesBetween rows n p q r
trees_between rows run n p q r h e v =
    record {
      count = λ text. v.count text ∙ ap trees_in (ap (triples text) e ∙ words_between text n rows p q h.2 h.3);
      few = omega (arith, v.few, ap length e, length-take-le (3 * q - 3 * p) (drop (3 * p) rows) (simp length-drop (omega arith)));
    }

pub part_made : (rows run : List ℕ) (n at e : ℕ) → (3 * n ≤ length rows) × (n < 2 ^ 16) × (at ≤ n) → After rows n at 1 e → run ≡ take (3 * e - 3 * at) (drop (3 * at) rows) → Part rows n at run
unfolding subtree between rows_after
part_made rows run n at e h v f =
    let m : length run ≡ 3 * e - 3 * at = ap length f ∙ length-take-le (3 * e - 3 * at) (drop (3 * at) rows) (simp length-drop (omega (arith, v.high))) in
    let told : (text : List ℕ) → triples text run ≡ subtree (first_rows text n rows) at = λ text.
    let w : e - at ≡ skip 1 (drop at (first_rows text n rows)) = omega (arith, v.row text) in
    ap (triples text) f ∙ rw (words_between text n rows at e v.low v.high, w) in
    record { told = told; long = λ text. omega (arith, v.low, ap length (told text), length_triples text run) }

-- ── Rows written ────────────────────────────────────────────────────────────────────────────────────────────

pub appended : (rows rows' run : List ℕ) (n : ℕ) → (3 * n + length run ≤ length rows) × (n < 2 ^ 16) × (length run % 3 ≡ 0) → rows' ≡ paste rows (3 * n) run (length run) → Appended rows n run rows' (n + length run / 3)
appended rows rows' run n h e =
    let k : 3 * (n + length run / 3) ≡ 3 * n + length run = omega arith in
    record {
      told = λ text. rw (k, e, take-paste rows (3 * n) run (length run) (omega arith) (omega arith), take_all (length run) run (omega arith)) (triples_append text n (take (3 * n) rows) run (length-take-le (3 * n) rows (omega arith)));
      count = refl;
      beyond = rw (k, e) (drop-paste rows (3 * n) run (length run) (omega arith) (omega arith));
    }

-- the parent's measure written, and then the words spliced
module _ (rows rows' run : List ℕ) (n parent p q removed gain m : ℕ)
    (h : (3 * n ≤ length rows) × (n < 2 ^ 16) × (parent < p) × (p ≤ q) × (q ≤ n))
    (k : (length run % 3 ≡ 0) × (3 * (n - (q - p)) + length run ≤ length rows))
    (l : (2147483648 ≤ get_or rows (3 * parent) 0) × (removed ≤ get_or rows (3 * parent + 1) 0) × (get_or rows (3 * parent + 1) 0 + gain < 2 ^ 32))
    (e : (m ≡ get_or rows (3 * parent + 1) 0) × (m < 2 ^ 32)) where
  abbrev written : List ℕ
  written = set rows (3 * parent + 1) (m + gain - removed)

  -- the rows of what is written
  rows_written : (text : List ℕ) → triples text (take (3 * n) written) ≡ modify parent (remeasure removed gain) (first_rows text n rows)
  rows_written text =
      let t : List ℕ = take (3 * n) rows in
      let a : get_or t (3 * parent) 0 ≡ get_or rows (3 * parent) 0 = get_or-take (3 * n) rows (3 * parent) 0 (omega arith) in
      let b : get_or t (3 * parent + 1) 0 ≡ m = get_or-take (3 * n) rows (3 * parent + 1) 0 (omega arith) ∙ sym e.0 in
      let z : 2147483648 ≤ get_or t (3 * parent) 0 = rw a l.0 in
      rw (take-set-lt (3 * n) rows (3 * parent + 1) (m + gain - removed) (omega arith))
      (triples_set text parent t (m + gain - removed) (remeasure removed gain) (omega (arith, length-take-le (3 * n) rows h.0))
      (rw (node_row text (get_or t (3 * parent) 0) (get_or t (3 * parent + 1) 0) (get_or t (3 * parent + 2) 0) z, b) (sym (node_row text (get_or t (3 * parent) 0) (m + gain - removed) (get_or t (3 * parent + 2) 0) z))))

  cut_written : (g : Row → Row) (R new : List Row) → length R ≡ n → take p (modify parent g R) ++ (new ++ drop q (modify parent g R)) ≡ modify parent g (take p R ++ (new ++ drop q R))
  cut_written g R new w =
      rw (take_modify g p R parent (omega arith), drop_modify_before g q R parent (omega arith)) (sym (modify_left g (take p R) (new ++ drop q R) parent (omega (arith, length-take-le p R (omega arith)))))

  pub rows_spliced : rows' ≡ spliced (3 * p) (3 * q) run (take (3 * n) written) ++ drop (3 * p + length run + (3 * n - 3 * q)) written → Spliced rows n parent p q removed run gain rows' (n - (q - p) + length run / 3)
  unfolding spliced splice_rows
  rows_spliced f =
      let w : 3 * (n - (q - p) + length run / 3) ≡ 3 * p + length run + (3 * n - 3 * q) = omega arith in
      let y : 3 * n ≤ length written = simp length-set (omega arith) in
      let X : List ℕ = take (3 * n) written in
      let x : length X ≡ 3 * n = length-take-le (3 * n) written y in
      record {
        told = λ text. rw (
          w,
          f,
          take_spliced written run (3 * n) (3 * p) (3 * q) (omega arith) (omega arith) y (drop (3 * p + length run + (3 * n - 3 * q)) written),
          triples_append text p (take (3 * p) X) (run ++ drop (3 * q) X) (length-take-le (3 * p) X (omega arith)),
          triples_append text (length run / 3) run (drop (3 * q) X) (omega arith),
          triples_take text p X,
          triples_drop text q X,
          rows_written text,
        )
            (cut_written (remeasure removed gain) (first_rows text n rows) (triples text run) (length_first text n rows h.0));
        count = refl;
        beyond = rw (w, f, drop_at (spliced (3 * p) (3 * q) run X) (drop (3 * p + length run + (3 * n - 3 * q)) written) (3 * p + length run + (3 * n - 3 * q)) (length_spliced written run (3 * n) (3 * p) (3 * q) (omega arith) (omega arith) y))
            (drop-set-lt (3 * p + length run + (3 * n - 3 * q)) rows (3 * parent + 1) (m + gain - removed) (omega arith));
      }

-- ── The greatest depth ──────────────────────────────────────────────────────────────────────────────────────

-- what the open nodes owe, from the innermost: words d to 1 of an array
abbrev stack : List ℕ → ℕ → List ℕ
stack left zero = []
stack left (suc d) = get_or left (suc d) 0 ∷ stack left d

length_stack : (left : List ℕ) (d : ℕ) → length (stack left d) ≡ d
length_stack left zero = refl
length_stack left (suc d) = ap suc (length_stack left d)

stack_set : (left : List ℕ) (d i v : ℕ) → d < i → stack (set left i v) d ≡ stack left d
stack_set left zero i v h = refl
stack_set left (suc d) i v h = rw (get_or-set_other left i (suc d) v 0 (omega arith), stack_set left d i v (omega arith))

-- the innermost owes one less
stack_opened : (left : List ℕ) (d : ℕ) → d < length left → (get_or left d 0 ≡ 0 → ⊥) → opened (stack left d) ≡ stack (set left d (get_or left d 0 - 1)) d
stack_opened left zero h z = refl
stack_opened left (suc d) h z = go (get_or left (suc d) 0) refl
  where
    go : (x : ℕ) → get_or left (suc d) 0 ≡ x → opened (x ∷ stack left d) ≡ get_or (set left (suc d) (x - 1)) (suc d) 0 ∷ stack (set left (suc d) (x - 1)) d
    go zero e = absurd (z e)
    go (suc x) e =
        let y : suc x - 1 ≡ x = omega arith in
        rw (y, get_or-set_same left (suc d) x 0 h, stack_set left d (suc d) x (omega arith))

stack_top : (left : List ℕ) (d : ℕ) → 0 < d → stack left d ≡ get_or left d 0 ∷ stack left (d - 1)
stack_top left zero h = absurd (omega arith)
stack_top left (suc d) h = let e : suc d - 1 ≡ d = omega arith in rw e

-- one child less is owed, and one more node is open
abbrev pushed : List ℕ → ℕ → ℕ → List ℕ
pushed left d m = set (set left d (get_or left d 0 - 1)) (d + 1) m

stack_pushed : (left : List ℕ) (d m : ℕ) → d + 1 < length left → stack (pushed left d m) (d + 1) ≡ m ∷ stack (set left d (get_or left d 0 - 1)) d
stack_pushed left d m h =
    let l : List ℕ = set left d (get_or left d 0 - 1) in
    rw (add-one d, get_or-set_same l (suc d) m 0 (simp length-set (omega arith)), stack_set l d (suc d) m (omega arith))

bottom_pushed : (left : List ℕ) (d m : ℕ) → d + 1 < length left → get_or left 0 0 ≤ get_or (pushed left d m) 0 0 + 1
bottom_pushed left zero m h =
    let x : ℕ = get_or left 0 0 - 1 in
    rw (get_or-set_other (set left 0 x) (0 + 1) 0 m 0 (omega arith), get_or-set_same left 0 x 0 (omega arith)) (omega arith)
bottom_pushed left (suc d) m h =
    let x : ℕ = get_or left (suc d) 0 - 1 in
    rw (get_or-set_other (set left (suc d) x) (suc d + 1) 0 m 0 (omega arith), get_or-set_other left (suc d) 0 x 0 (omega arith)) (omega arith)

-- i rows are read, d nodes are open, and the greatest depth so far is `most`. At the bottom more is owed than there are rows left
pub record Stacking (run left : List ℕ) (d most i : ℕ) : Type 0 where
  pub long : length left ≡ 65
  pub few : d ≤ 64
  pub inside : 3 * i ≤ length run
  pub base : length run ≤ get_or left 0 0 + i
  pub within : most ≤ 64
  pub rest : (text : List ℕ) → height (triples text run) ≡ max most (height_in (stack left d) (drop i (triples text run)))

module _ {run left : List ℕ} {d most i : ℕ} (v : Stacking run left d most i) (h : 3 * i + 2 < length run) where
  stacking_open : get_or left d 0 ≡ 0 → 0 < d
  stacking_open z = go d refl
    where
      go : (c : ℕ) → c ≡ d → 0 < c
      go zero w = absurd (omega (arith, v.base, ap (λ (y : ℕ). get_or left y 0) w))
      go (suc c) w = omega arith

  -- a node that owes nothing is closed
  pub stacking_pop : get_or left d 0 ≡ 0 → Stacking run left (d - 1) most i
  stacking_pop z = record {
    long = v.long;
    few = omega (arith, v.few);
    inside = v.inside;
    base = v.base;
    within = v.within;
    rest = λ text. v.rest text ∙ rw (stack_top left d (stacking_open z), z, height_closed (stack left (d - 1)) (drop i (triples text run)));
  }

  module _ (z : get_or left d 0 ≡ 0 → ⊥) where
    height_step : (text : List ℕ) → height_in (stack left d) (drop i (triples text run)) ≡ max (suc d) (height_in (owes (row_in text run i) ∷ stack (set left d (get_or left d 0 - 1)) d) (drop (suc i) (triples text run)))
    unfolding height_in
    height_step text = rw (triples_at text i run h, stack_opened left d (omega (arith, v.long, v.few)) z, length_stack (set left d (get_or left d 0 - 1)) d)

    pub stacking_deep : 64 ≤ d → Height run None
    unfolding height_by
    stacking_deep k = record { most = λ text. rw (lt-ltb 64 (height (triples text run)) (omega (arith, v.rest text, height_step text))) }

    pub stacking_push : {m most' : ℕ} → d < 64 → Counted run i m → most' ≡ max most (d + 1) → Stacking run (set (set left d (get_or left d 0 - 1)) (d + 1) m) (d + 1) most' (i + 1)
    stacking_push {m} k c e = record {
      long = simp length-set v.long;
      few = omega arith;
      inside = omega arith;
      base = omega (arith, v.base, bottom_pushed left d m (omega (arith, v.long)));
      within = omega (arith, v.within);
      rest = λ text. rw (stack_pushed left d m (omega (arith, v.long)), c.count text, add-one i) (omega (arith, v.rest text, height_step text));
    }

pub stacking_done : {run left : List ℕ} {d most i : ℕ} → Stacking run left d most i → length run ≤ 3 * i + 2 → Height run (Some most)
unfolding height_in height_by
stacking_done {run} {most = most} {i = i} v h = record {
  most = λ text.
      let e = rw (triples_end text i run h) at (v.rest text) in
      let z : height (triples text run) ≡ most = omega (arith, v.within) in
      rw (z, le-ltb 64 most (omega (arith, v.within)));
}
