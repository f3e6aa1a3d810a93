-- Notes in words: three words a note, its row, its number and its place in the queue. What is written is read back, and a note added behind others.
-- Assumes nothing.
use Rattle.std.specs.Prelude.{◌≡◌, refl, length, get_or, take}
use Rattle.std.proofs.Common.{sym, ◌∙◌, add-zero, add-one, drop-drop, get_or-drop, get_or-take}
use Rattle.std.proofs.Math.Path.{ap}
use mathlib.Core.List.{List, [], ◌∷◌, ◌++◌, append_assoc}
use Prim.Native.Nat.{ℕ, zero, suc, ◌+◌, ◌-◌, ◌*◌, ◌/◌, ◌≤◌, ◌<◌}
use native.Mathlib.Omega.{arith}
use Rattle.std.proofs.Math.ListN.{drop}
use Rattle.std.proofs.Math.Seq.{paste, drop-paste, length-paste, length-take-le, drop_at}
use Rattle.words.specs.Parts.{get_d_below}
use Rattle.run_model.specs.Store.{HeldNote, with_row}

-- a note's words
unfoldable pub note_words : HeldNote → List ℕ
note_words n = n.row ∷ n.number ∷ n.place ∷ []

-- the note at the front of some words
unfoldable pub note_of : List ℕ → HeldNote
note_of l = record { row = get_or l 0 0; number = get_or l 1 0; place = get_or l 2 0 }

-- the k notes at the front of some words
unfoldable pub notes_of : ℕ → List ℕ → List HeldNote
notes_of zero l = []
notes_of (suc k) l = note_of l ∷ notes_of k (drop 3 l)

-- all notes that some words are
abbrev pub notes_in : List ℕ → List HeldNote
notes_in w = notes_of (length w / 3) w

-- the note at place i
unfoldable pub note_at : List ℕ → ℕ → HeldNote
note_at w i = note_of (drop (3 * i) w)

pub length_notes_of : (k : ℕ) (w : List ℕ) → length (notes_of k w) ≡ k
unfolding notes_of
length_notes_of zero w = refl
length_notes_of (suc k) w = ap suc (length_notes_of k (drop 3 w))

-- ── One note ────────────────────────────────────────────────────────────────────────────────────────────────

pub note_row : (w : List ℕ) (i : ℕ) → (note_at w i).row ≡ get_or w (3 * i) 0
unfolding note_at note_of
note_row w i = get_or-drop (3 * i) w 0 0 ∙ ap (λ (j : ℕ). get_or w j 0) (add-zero (3 * i))

-- the words of a note at another row
pub note_words_lem : (w : List ℕ) (i row : ℕ) {b c : ℕ} → b ≡ get_or w (3 * i + 1) 0 → c ≡ get_or w (3 * i + 2) 0 → note_words (with_row (note_at w i) row) ≡ row ∷ b ∷ c ∷ []
unfolding note_words with_row note_at note_of
note_words_lem w i row e f = rw (e, f, get_or-drop (3 * i) w 1 0, get_or-drop (3 * i) w 2 0)

-- a note that was written is read back
pub note_read : (n : HeldNote) (l : List ℕ) → note_of (note_words n ++ l) ≡ n
unfolding note_of note_words
note_read n l = refl

-- ── Some notes ──────────────────────────────────────────────────────────────────────────────────────────────

-- the notes before a place, and the note there
pub notes_to : (w : List ℕ) (k : ℕ) → notes_of (suc k) w ≡ notes_of k w ++ (note_at w k ∷ [])
unfolding notes_of note_at
notes_to w zero = refl
notes_to w (suc k) =
    let e : 3 * suc k ≡ 3 + 3 * k = omega arith in
    ap {B = List HeldNote} (λ l. note_of w ∷ l) (notes_to (drop 3 w) k ∙ rw (e, drop-drop (3 * k) 3 w))

-- the note at place i, among k
pub note_among : (w : List ℕ) (k i : ℕ) (z : HeldNote) → i < k → get_or (notes_of k w) i z ≡ note_at w i
unfolding notes_of note_at
note_among w zero i z h = absurd (omega arith)
note_among w (suc k) zero z h = refl
note_among w (suc k) (suc i) z h =
    let e : 3 * suc i ≡ 3 + 3 * i = omega arith in
    note_among (drop 3 w) k i z (omega arith) ∙ rw (e, drop-drop (3 * i) 3 w)

-- a note is its three words
note_same : (w v : List ℕ) (i : ℕ) → ((j : ℕ) → j < 3 * i + 3 → get_or w j 0 ≡ get_or v j 0) → note_at w i ≡ note_at v i
unfolding note_at note_of
note_same w v i h =
    let at : (j : ℕ) → j < 3 → get_or (drop (3 * i) w) j 0 ≡ get_or (drop (3 * i) v) j 0 = λ j b. get_or-drop (3 * i) w j 0 ∙ (h (3 * i + j) (omega arith) ∙ sym (get_or-drop (3 * i) v j 0)) in
    λ j. record { row = at 0 (omega arith) j; number = at 1 (omega arith) j; place = at 2 (omega arith) j }

-- notes depend on their words alone
pub notes_same : (w v : List ℕ) (k : ℕ) → ((j : ℕ) → j < 3 * k → get_or w j 0 ≡ get_or v j 0) → notes_of k w ≡ notes_of k v
unfolding notes_of
notes_same w v zero h = refl
notes_same w v (suc k) h = rw (notes_to w k, notes_to v k, notes_same w v k (λ j b. h j (omega arith)), note_same w v k (λ j b. h j (omega arith)))

-- the first k notes, in words of their own
pub notes_part : (k : ℕ) (w : List ℕ) → 3 * k ≤ length w → notes_in (take (3 * k) w) ≡ notes_of k w
notes_part k w h =
    let e : length (take (3 * k) w) / 3 ≡ k = omega (arith, length-take-le (3 * k) w h) in
    ap (λ (i : ℕ). notes_of i (take (3 * k) w)) e ∙ notes_same (take (3 * k) w) w k (λ j b. get_or-take (3 * k) w j 0 b)

-- ── A note written behind others ────────────────────────────────────────────────────────────────────────────

module _ (w : List ℕ) (k : ℕ) (n : HeldNote) (h : 3 * k + 3 ≤ length w) where
  pub notes_added : notes_of (k + 1) (paste w (3 * k) (note_words n) 3) ≡ notes_of k w ++ (n ∷ [])
  unfolding note_at note_words
  notes_added =
      let out : List ℕ = paste w (3 * k) (note_words n) 3 in
      let a = length-take-le (3 * k) w (omega arith) in
      let f : notes_of k out ≡ notes_of k w = notes_same out w k (λ j b. get_d_below w (3 * k) (note_words n) 3 h (omega arith) 0 j b) in
      let g : note_at out k ≡ n = rw (append_assoc (take (3 * k) w) (take 3 (note_words n)) (drop (3 * k + 3) w), drop_at (take (3 * k) w) (take 3 (note_words n) ++ drop (3 * k + 3) w) (3 * k) a) (note_read n (drop (3 * k + 3) w)) in
      rw (add-one k, notes_to out k, f, g)

  -- what stands behind it stays
  pub drop_note : (i : ℕ) → k ≤ i → drop (3 * suc i) (paste w (3 * k) (note_words n) 3) ≡ drop (3 * suc i) w
  unfolding note_words
  drop_note i b =
      let d : ℕ = 3 * (i - k) in
      let e : 3 * suc i ≡ 3 * k + 3 + d = omega arith in
      let f : drop (3 * k + 3) (paste w (3 * k) (note_words n) 3) ≡ drop (3 * k + 3) w = drop-paste w (3 * k) (note_words n) 3 (omega arith) (omega arith) in
      ap (λ (j : ℕ). drop j (paste w (3 * k) (note_words n) 3)) e ∙ (sym (drop-drop d (3 * k + 3) (paste w (3 * k) (note_words n) 3)) ∙ (ap (drop d) f ∙ (drop-drop d (3 * k + 3) w ∙ ap (λ (j : ℕ). drop j w) (sym e))))

  pub length_note : length (paste w (3 * k) (note_words n) 3) ≡ length w
  unfolding note_words
  length_note = length-paste w (3 * k) (note_words n) 3 h (omega arith)
