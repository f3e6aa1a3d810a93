-- Change rows in words: what is written is read back, rows by place, and a row written over or added.
-- Assumes nothing.
use Rattle.std.specs.Prelude.{◌≡◌, refl, ℕ, zero, suc, ◌+◌, ◌-◌, ◌*◌, ◌≤◌, ◌<◌, length, get_or, take, drop}
use Rattle.std.proofs.Common.{sym, ap, ◌∙◌, zero-add, suc-add, arith, below_none, below_more, length-drop, lit<, drop-drop, take-add, take_all, take_at, drop_at, ext_get_or, length-take-le, get_or-take}
use mathlib.Core.List.{List, [], ◌∷◌, ◌++◌, flat_map, append_assoc, append-nil}
use Rattle.std.proofs.Math.Seq.{paste}
use Rattle.std.proofs.lemmas.List.{get_or_at}
use Rattle.record_changes.specs.ChangeRow.{ChangeRow, row_words, row_of, rows_of}

-- ── Rows in words ───────────────────────────────────────────────────────────────────────────────────────────

-- the row at place k
unfoldable pub row_at : List ℕ → ℕ → ChangeRow
row_at w k = row_of (drop (14 * k) w)

-- the words of some rows
unfoldable pub rows_words : List ChangeRow → List ℕ
rows_words rs = flat_map row_words rs

pub length_rows_of : (n : ℕ) (w : List ℕ) → length (rows_of n w) ≡ n
unfolding rows_of
length_rows_of zero w = refl
length_rows_of (suc n) w = ap suc (length_rows_of n (drop 14 w))

pub length_row : (r : ChangeRow) → length (row_words r) ≡ 14
unfolding row_words
length_row r = refl

pub length_rows_words : (rs : List ChangeRow) → length (rows_words rs) ≡ 14 * length rs
unfolding rows_words row_words flat_map
length_rows_words [] = refl
length_rows_words (r ∷ rs) = omega (arith, length_rows_words rs)

pub rows_words_more : (rs : List ChangeRow) (r : ChangeRow) → rows_words (rs ++ (r ∷ [])) ≡ rows_words rs ++ row_words r
unfolding rows_words flat_map
rows_words_more [] r = append-nil (row_words r)
rows_words_more (s ∷ rs) r = rw (append_assoc (row_words s) (flat_map row_words rs) (row_words r)) (ap {B = List ℕ} (λ l. row_words s ++ l) (rows_words_more rs r))

-- a row that was written is read back, and the rows behind it
pub row_read : (r : ChangeRow) (l : List ℕ) (n : ℕ) → rows_of (suc n) (row_words r ++ l) ≡ r ∷ rows_of n l
unfolding rows_of row_words row_of
row_read r l n = refl

-- rows that were written are read back
pub rows_read : (rs : List ChangeRow) (l : List ℕ) (n : ℕ) → length rs ≡ n → rows_of n (rows_words rs ++ l) ≡ rs
unfolding rows_of rows_words row_words flat_map row_of
rows_read [] l zero e = refl
rows_read [] l (suc n) e = absurd (omega arith)
rows_read (r ∷ rs) l zero e = absurd (omega arith)
rows_read (r ∷ rs) l (suc n) e = ap {B = List ChangeRow} (λ q. r ∷ q) (rows_read rs l n (omega arith))

-- the words of a row, one by one
pub row_word : (l : List ℕ) (i : ℕ) → i < 14 → get_or (row_words (row_of l)) i 0 ≡ get_or l i 0
unfolding row_words row_of
row_word l =
    let P : ℕ → Type 0 = λ i. get_or (row_words (row_of l)) i 0 ≡ get_or l i 0 in
    below_more P 13 (below_more P 12 (below_more P 11 (below_more P 10 (below_more P 9 (below_more P 8 (below_more P 7 (below_more P 6 (below_more P 5 (below_more P 4 (below_more P 3 (below_more P 2 (below_more P 1 (below_more P 0 (below_none P) refl) refl) refl) refl) refl) refl) refl) refl) refl) refl) refl) refl) refl) refl

row_words_lem : (l : List ℕ) → 14 ≤ length l → row_words (row_of l) ≡ take 14 l
row_words_lem l h =
    ext_get_or 0 (row_words (row_of l)) (take 14 l) (length_row (row_of l) ∙ sym (length-take-le 14 l h))
    (λ i b. let k : i < 14 = omega (arith, length_row (row_of l)) in row_word l i k ∙ sym (get_or-take 14 l i 0 k))

-- rows that were read are written back
pub rows_written : (n : ℕ) (w : List ℕ) → 14 * n ≤ length w → rows_words (rows_of n w) ≡ take (14 * n) w
unfolding rows_of rows_words flat_map
rows_written zero w h = refl
rows_written (suc n) w h =
    let e : 14 * suc n ≡ 14 + 14 * n = omega arith in
    rw (e, take-add 14 (14 * n) w, row_words_lem w (omega arith), rows_written n (drop 14 w) (omega (arith, length-drop 14 w)))

-- a row is its fourteen words
pub row_ext : (l m : List ℕ) → ((i : ℕ) → i < 14 → get_or l i 0 ≡ get_or m i 0) → row_of l ≡ row_of m
unfolding row_of
row_ext l m h = λ i. record { operation = h 0 (lit< tt) i; target = h 1 (lit< tt) i; end = h 2 (lit< tt) i; list = h 3 (lit< tt) i; count = h 4 (lit< tt) i; tree = h 5 (lit< tt) i; from = h 6 (lit< tt) i; to = h 7 (lit< tt) i; depth = h 8 (lit< tt) i; rank = h 9 (lit< tt) i; region = h 10 (lit< tt) i; fate = h 11 (lit< tt) i; owner = h 12 (lit< tt) i; rule = h 13 (lit< tt) i }

-- ── The rows from a place on ────────────────────────────────────────────────────────────────────────────────

pub rows_from : (w : List ℕ) (i n : ℕ) → rows_of (suc n) (drop (14 * i) w) ≡ row_at w i ∷ rows_of n (drop (14 * suc i) w)
unfolding rows_of row_at
rows_from w i n = let e : 14 * suc i ≡ 14 * i + 14 = omega arith in rw (e, drop-drop 14 (14 * i) w)

-- the rows before a place, and the row there
pub rows_to : (w : List ℕ) (k : ℕ) → rows_of (suc k) w ≡ rows_of k w ++ (row_at w k ∷ [])
unfolding rows_of row_at
rows_to w zero = refl
rows_to w (suc k) =
    let e : 14 * suc k ≡ 14 + 14 * k = omega arith in
    ap {B = List ChangeRow} (λ rs. row_of w ∷ rs) (rows_to (drop 14 w) k ∙ rw (e, drop-drop (14 * k) 14 w))

-- the rows before a place, and those from it on
pub rows_append : (k m n : ℕ) (w : List ℕ) → n ≡ k + m → rows_of n w ≡ rows_of k w ++ rows_of m (drop (14 * k) w)
unfolding rows_of
rows_append zero m n w e = rw (e, zero-add)
rows_append (suc k) m n w e =
    let f : 14 * suc k ≡ 14 + 14 * k = omega arith in
    rw (e, suc-add k m, f, ← drop-drop (14 * k) 14 w) (ap {B = List ChangeRow} (λ rs. row_of w ∷ rs) (rows_append k m (k + m) (drop 14 w) refl))

pub rows_same : (w v : List ℕ) (k : ℕ) → ((j : ℕ) → j < k → row_at w j ≡ row_at v j) → rows_of k w ≡ rows_of k v
unfolding rows_of
rows_same w v zero h = refl
rows_same w v (suc k) h = rw (rows_to w k, rows_to v k, rows_same w v k (λ j b. h j (omega arith)), h k (omega arith))

-- rows do not depend on what stands behind them
pub rows_front : (k : ℕ) (w l : List ℕ) → 14 * k ≤ length w → rows_of k (take (14 * k) w ++ l) ≡ rows_of k w
rows_front k w l h = rw (← rows_written k w h) (rows_read (rows_of k w) l k (length_rows_of k w))

pub rows_take : (k n : ℕ) (w : List ℕ) → k ≤ n → take k (rows_of n w) ≡ rows_of k w
rows_take k n w h =
    rw (rows_append k (n - k) n w (omega arith)) (take_at (rows_of k w) (rows_of (n - k) (drop (14 * k) w)) k (length_rows_of k w))

pub rows_drop : (k n : ℕ) (w : List ℕ) → k ≤ n → drop k (rows_of n w) ≡ rows_of (n - k) (drop (14 * k) w)
rows_drop k n w h =
    rw (rows_append k (n - k) n w (omega arith)) (drop_at (rows_of k w) (rows_of (n - k) (drop (14 * k) w)) k (length_rows_of k w))

-- the row at a place, among n
pub row_among : (w : List ℕ) (n k : ℕ) (z : ChangeRow) → k < n → get_or (rows_of n w) k z ≡ row_at w k
row_among w n k z h =
    let m : ℕ = n - suc k in
    rw (rows_append k (suc m) n w (omega arith), rows_from w k m) (get_or_at (rows_of k w) (row_at w k) (rows_of m (drop (14 * suc k) w)) z k (length_rows_of k w))

-- ── A row written at a place: those before it and behind it stay ────────────────────────────────────────────

pub rows_paste : (k m n : ℕ) (w : List ℕ) (r : ChangeRow) → n ≡ k + suc m → 14 * k + 14 ≤ length w
    → rows_of n (paste w (14 * k) (row_words r) 14) ≡ rows_of k w ++ (r ∷ rows_of m (drop (14 * suc k) w))
rows_paste k m n w r e h =
    let rest : List ℕ = drop (14 * k + 14) w in
    let f : 14 * suc k ≡ 14 * k + 14 = omega arith in
    let a : paste w (14 * k) (row_words r) 14 ≡ take (14 * k) w ++ (row_words r ++ rest) = rw (take_all 14 (row_words r) (omega (arith, length_row r))) (append_assoc (take (14 * k) w) (row_words r) rest) in
    rw (a, rows_append k (suc m) n (take (14 * k) w ++ (row_words r ++ rest)) e, rows_front k w (row_words r ++ rest) (omega arith), drop_at (take (14 * k) w) (row_words r ++ rest) (14 * k) (length-take-le (14 * k) w (omega arith)), row_read r rest m, f)

-- the row at k < n written over
pub row_set : (n k : ℕ) (w : List ℕ) (r : ChangeRow) → k < n → 14 * n ≤ length w → rows_of n (paste w (14 * k) (row_words r) 14) ≡ take k (rows_of n w) ++ (r ∷ drop (suc k) (rows_of n w))
row_set n k w r h b = rw (rows_take k n w (omega arith), rows_drop (suc k) n w (omega arith)) (rows_paste k (n - suc k) n w r (omega arith) (omega arith))

-- a row written behind all
pub row_added : (n : ℕ) (w : List ℕ) (r : ChangeRow) → 14 * n + 14 ≤ length w → rows_of (n + 1) (paste w (14 * n) (row_words r) 14) ≡ rows_of n w ++ (r ∷ [])
unfolding rows_of
row_added n w r b = rows_paste n 0 (n + 1) w r (omega arith) b
