-- Each answer, from what was done, and the loop's invariant.
-- Assumes nothing.
use Rattle.std.specs.Prelude as prelude
use Rattle.std.specs.Prelude.{None, Some, Bool, true, false, cond, ◌||◌, leb, ltb}
use Rattle.std.specs.List.{filter, range_with_len}
use Rattle.std.proofs.lemmas.List.Sums.{length-filter, count_by-le-length}
use Rattle.std.proofs.lemmas.List.FromFn.{length-range_with_len}
use mathlib.Core.Logic.{inl, inr}
use borrow.Author.Tests.{lt-ltb, le-ltb, le-leb, lt-leb}
use mathlib.Core.Path.{◌≡◌, refl, sym, ap, ◌∙◌}
use mathlib.Core.List.{List, [], ◌∷◌, ◌++◌, append-nil}
use mathlib.Core.Option
use mathlib.Core.Option.{Option, none, some}
use Prim.Native.Nat.{ℕ, zero, suc, ◌+◌, ◌*◌, ◌/◌, ◌%◌, ◌^◌, ◌≤◌, ◌<◌}
use native.Mathlib.Nat.{add-zero, zero-add}
use native.Mathlib.Omega.{arith}
use lib.ListN.{length, get_or, drop}
use lib.Seq.{paste, drop-drop, get_or-drop}
use Rattle.orders.specs.Lists.{All, more, pick}
use Rattle.orders.specs.ListLaws.{All-map, lt_or_le}
use Rattle.orders.specs.Tree.{shift}
use Rattle.orders.proofs.TreeLaws.{shift_before, shift_inside, shift_after}
use Rattle.words.specs.Parts.{get_d_below, get_d_inside}
use Rattle.rows_syntax_node.specs.Promises.{Spliced, Shifted}
use Rattle.rows_syntax_node.specs.Rising.{Rising}
use Rattle.run_model.specs.Store.{HeldNote, with_row}
use Rattle.run_annotations.specs.Notes.{note_of, notes_of, notes_in, note_at, note_row, notes_same}
use Rattle.run_annotations.specs.Changed.{changed_in, Ruled, count_by}
use Rattle.run_annotations.specs.Promises.{RowsMoved, moved_note, NotesMoved, RowsAdded}
use Rattle.run_splice.specs.Promises.{SplicedMarks, NotesLeft, NotesAfter, NotesSpliced, Recorded, ChangedSpliced}

-- ── Rows and marks ──────────────────────────────────────────────────────────────────────────────────────────

pub all_small : (n : ℕ) (l : List ℕ) → n < 2 ^ 16 → All (λ m. m < n) l → All (λ x. x < 2 ^ 16) l
all_small n l h a = All-map (λ x k. omega arith) l a

pub spliced_marks : (rows : List ℕ) (n : ℕ) (marks : List ℕ) (parent p q lost : ℕ) (run : List ℕ) (gain : ℕ) (out marked : List ℕ) (r : ℕ) → parent < p → q ≤ n → All (λ m. m < n) marks
    → Shifted marks p q (length run / 3) marked → Rising marked → Spliced rows n parent p q lost run gain out r → SplicedMarks rows n marks parent p q lost run gain out marked r
spliced_marks rows n marks parent p q lost run gain out marked r h k a s i t = record {
  told = t.told;
  count = t.count;
  beyond = t.beyond;
  moved = s.moved;
  below = rw t.count (s.below n (omega arith) k a);
  risen = i;
}

-- ── Notes that stay ─────────────────────────────────────────────────────────────────────────────────────────

-- a note stays where its row stays
stays_by : (n : HeldNote) (o : Option ℕ) → length (more (Option.map (with_row n) o) []) ≡ length (more o [])
stays_by n none = refl
stays_by n (some x) = refl

module _ (l : List ℕ) (p q : ℕ) (o : p ≤ q) where
  -- whether the note at a place stays
  abbrev pub stays_at : ℕ → Bool
  stays_at i = ltb (get_or l (3 * i) 0) p || leb q (get_or l (3 * i) 0)

  row_stays : (m x : ℕ) → length (more (shift p q m x) []) ≡ cond (ltb x p || leb q x) 1 0
  row_stays m x = elim (lt_or_le x p) [
    | inl h ↦ rw (shift_before p q m x h, lt-ltb x p h) refl
    | inr h ↦ elim (lt_or_le x q) [ inl k ↦ rw (shift_inside p q m x h k, le-ltb x p h, lt-leb q x k) refl | inr k ↦ rw (shift_after p q m x h k, le-ltb x p h, le-leb q x k) refl ]
  ]

  note_stays : (m i : ℕ) → length (more (moved_note p q m (note_at l i)) []) ≡ cond (stays_at i) 1 0
  note_stays m i = stays_by (note_at l i) (shift p q m (note_at l i).row) ∙ (ap (λ (y : ℕ). length (more (shift p q m y) [])) (note_row l i) ∙ row_stays m (get_or l (3 * i) 0))

  -- the library's count of the places from i on is that of the notes that are picked
  staying_from : (m n i : ℕ) → length (filter stays_at (range_with_len i n)) ≡ length (pick (moved_note p q m) (notes_of n (drop (3 * i) l)))
  unfolding pick notes_of note_at
  staying_from m zero i = refl
  staying_from m (suc n) i =
      let f : 3 * i + 3 ≡ 3 * (i + 1) = omega arith in
      rw (drop-drop 3 (3 * i) l, f) (go (stays_at i) (moved_note p q m (note_at l i)) (note_stays m i) _ _ _ (staying_from m n (i + 1)))
    where
      go : (b : Bool) (y : Option HeldNote) → length (more y []) ≡ cond b 1 0 → (k : List ℕ) (x : ℕ) (hs : List HeldNote) → length k ≡ length hs → length (cond b (x ∷ k) k) ≡ length (more y hs)
      go true none e k x hs h = omega arith
      go true (some z) e k x hs h = omega arith
      go false none e k x hs h = h
      go false (some z) e k x hs h = omega arith

  pub notes_counted : {r : ℕ} → r ≡ length (filter stays_at (range_with_len 0 (length l / 3))) → NotesLeft l p q r
  notes_counted e = record { count = λ m. e ∙ staying_from m (length l / 3) 0; most = omega (arith, e, length-filter stays_at (range_with_len 0 (length l / 3)), count_by-le-length stays_at (range_with_len 0 (length l / 3)), length-range_with_len 0 (length l / 3)) }

  -- even all that are held are not too many
  pub after_few : (come most : ℕ) → length l / 3 + come ≤ most → NotesAfter l p q come most (length l / 3 + come)
  after_few come most h = record {
    same = λ m.
        let v = notes_counted refl in
        let n : ℕ = length (pick (moved_note p q m) (notes_in l)) in
        le-ltb most (length l / 3 + come) h ∙ sym (le-ltb most (n + come) (omega (arith, h, v.count m, v.most)));
  }

  -- those that stay are counted
  pub after_counted : {left : ℕ} (come most : ℕ) → NotesLeft l p q left → NotesAfter l p q come most (left + come)
  after_counted come most v = record { same = λ m. ap (λ (n : ℕ). ltb most (n + come)) (v.count m) }

-- ── Notes moved, and notes behind them ──────────────────────────────────────────────────────────────────────

-- some notes, and those behind them
notes_parted : (w : List ℕ) (r c : ℕ) → notes_of (r + c) w ≡ notes_of r w ++ notes_of c (drop (3 * r) w)
unfolding notes_of
notes_parted w zero c = ap (λ (n : ℕ). notes_of n w) (zero-add c)
notes_parted w (suc r) c =
    let e : 3 * suc r ≡ 3 + 3 * r = omega arith in
    let h : suc r + c ≡ suc (r + c) = omega arith in
    rw h (ap {B = List HeldNote} (λ l. note_of w ∷ l) (notes_parted (drop 3 w) r c ∙ rw (e, drop-drop (3 * r) 3 w)))

-- c notes written behind the first r
notes_behind : (w src : List ℕ) (r c : ℕ) → 3 * r + 3 * c ≤ length w → 3 * c ≤ length src → notes_of (r + c) (paste w (3 * r) src (3 * c)) ≡ notes_of r w ++ notes_of c src
notes_behind w src r c h k =
    let out : List ℕ = paste w (3 * r) src (3 * c) in
    let f : notes_of r out ≡ notes_of r w = notes_same out w r (λ j b. get_d_below w (3 * r) src (3 * c) h k 0 j b) in
    let g : notes_of c (drop (3 * r) out) ≡ notes_of c src = notes_same (drop (3 * r) out) src c (λ j b. get_or-drop (3 * r) out j 0 ∙ get_d_inside w (3 * r) src (3 * c) h k 0 j (3 * r + j) b refl) in
    rw (notes_parted out r c, f, g)

pub notes_spliced : {l : List ℕ} {k p q m : ℕ} {incoming moved out : List ℕ} {r : ℕ} → length incoming % 3 ≡ 0 → length moved ≡ length l
    → 3 * (length (pick (moved_note p q m) (notes_of k l)) + length incoming / 3) ≤ length l
    → NotesMoved l k p q m moved r → out ≡ paste moved (3 * r) incoming (length incoming) → NotesSpliced l k p q m incoming out (r + length incoming / 3)
notes_spliced {l} {k} {p} {q} {m} {incoming} {moved} {out} {r} whole long h s e =
    let c : ℕ = length incoming / 3 in
    let z : length incoming ≡ 3 * c = omega arith in
    let f : notes_of (r + c) out ≡ notes_of r moved ++ notes_of c incoming = ap (notes_of (r + c)) (e ∙ ap (paste moved (3 * r) incoming) z) ∙ notes_behind moved incoming r c (omega (arith, s.count)) (omega arith) in
    record { notes = f ∙ rw s.notes; count = ap (λ (n : ℕ). n + c) s.count }

-- ── Changed elements ────────────────────────────────────────────────────────────────────────────────────────

-- a change that records: its rule number has its bits, and there is room
pub recorded_asks : (k : ℕ) {rule : ℕ} (m n at : ℕ) {recorded : prelude.Option ℕ} → recorded ≡ Some rule → (k + count_by recorded n ≤ m) × Ruled recorded × (at < 2 ^ 16) → (k + n ≤ m) × (rule < 4096) × (at < 2 ^ 16)
recorded_asks k {rule} m n at {recorded} e h = rw e at h

pub recorded_all : {l : List ℕ} {k at rule : ℕ} {recorded : prelude.Option ℕ} {sizes out : List ℕ} {r : ℕ} → recorded ≡ Some rule → RowsAdded l k at rule sizes out r → Recorded l k at recorded sizes out r
recorded_all e s = rw e (record { rows = s.rows; count = s.count })

pub recorded_none : (l : List ℕ) (k at : ℕ) {recorded : prelude.Option ℕ} (sizes : List ℕ) → recorded ≡ None → Recorded l k at recorded sizes l k
recorded_none l k at sizes e = rw e (record { rows = sym (append-nil (changed_in k l)); count = sym (add-zero k) })

pub changed_spliced : {l : List ℕ} {k p q m : ℕ} {moved : List ℕ} {r : ℕ} {recorded : prelude.Option ℕ} {sizes out : List ℕ} {n : ℕ} → RowsMoved l k p q m moved r → Recorded moved r p recorded sizes out n → ChangedSpliced l k p q m recorded sizes out n
changed_spliced s t = record { rows = t.rows ∙ rw s.rows; most = omega (arith, t.count, s.most) }
