-- What is written at a place of the output; numbers and lines, and how long they are.
-- Assumes nothing.
use Rattle.std.specs.Prelude.{◌≡◌, Bool, true, false, cond, ltb, length, get_or, take, drop}
use Rattle.std.proofs.Math.Path.{refl, ap}
use Rattle.std.proofs.Common.{sym, ◌∙◌, arith, length-append, length-drop, take_all}
use Rattle.std.proofs.lemmas.List.{length-map}
use Rattle.definition_laws.specs.Basics.{first_zip}
use mathlib.Core.List.{List, [], ◌∷◌, ◌++◌, flat_map, zip}
use Prim.Native.Nat.{ℕ, zero, suc, ◌+◌, ◌*◌, ◌/◌, ◌%◌, ◌≤◌, ◌<◌}
use Rattle.std.proofs.Math.Seq.{paste, drop-drop, length_paste_head}
use Rattle.std.proofs.lemmas.List.Edits.{take-paste}
use Rattle.definition.specs.Words.{word, words}
use Rattle.definition.specs.Elements.{is_node, kind_of}
use Rattle.definition.specs.Printed.{ascii, digits, decimal, hex, line, element_line, text_line}
use Rattle.result_laws.specs.Decoded.{text_at}
use Rattle.words.specs.Bytes.{length_words, get_d_words}
use Rattle.words.specs.Parts.{paste_paste}

-- ── What is written at a place ──────────────────────────────────────────────────────────────────────────────

-- l is d with s written at `at`, up to `to`. Beside `Appended` of write_layout: that tells of the front up to `to` alone, this of all of the output; neither crate lies below the other
pub record Put (d : List ℕ) (at : ℕ) (s l : List ℕ) (to : ℕ) : Type 0 where
  pub end : to ≡ at + length s
  pub is : l ≡ paste d at s (length s)

-- one text behind another
pub put_more : {d : List ℕ} {at : ℕ} {s l : List ℕ} {to : ℕ} {t l' : List ℕ} {to' : ℕ} → Put d at s l to → Put l to t l' to' → to ≤ length d → Put d at (s ++ t) l' to'
put_more {d} {at} {s} {l} {to} {t} {l'} {to'} a b h = record {
  end = omega (arith, length-append s t, a.end, b.end);
  is =
      b.is
      ∙ (ap (λ x. paste x to t (length t)) a.is
      ∙ paste_paste d at s (length s) t (length t) to (length (s ++ t)) a.end (length-append s t) (omega (arith, a.end)) (omega arith) refl);
}

-- what is written at the front of an output that keeps its length has room there, and is read there again
module _ {d s l : List ℕ} {to : ℕ} (p : Put d 0 s l to) (e : length l ≡ length d) where
  pub put_fits : to ≤ length l
  put_fits =
      let n = length s in
      omega (arith, p.end, ap length p.is, length-append (take 0 d ++ take n s) (drop (0 + n) d), length_paste_head d 0 s n (omega arith) (omega arith), length-drop (0 + n) d)

  pub put_front : take to l ≡ s
  put_front = rw (p.end, p.is) (take-paste d 0 s (length s) (omega arith) (omega arith) ∙ take_all (length s) s (omega arith))

-- ── Numbers and lines ───────────────────────────────────────────────────────────────────────────────────────

-- a number after a space
unfoldable pub spaced : ℕ → List ℕ
spaced n = 32 ∷ decimal n

-- a line whose first word is given as bytes
unfoldable pub line_of : List ℕ → List ℕ → List ℕ
line_of name ns = name ++ flat_map spaced ns ++ (10 ∷ [])

-- a line of a name and two numbers
unfoldable pub pair_line : List ℕ → ℕ × ℕ → List ℕ
pair_line name m = line_of name (m.0 ∷ m.1 ∷ [])

-- the line of a changed element: its number, its rule number
unfoldable pub changed_line : ℕ × ℕ → List ℕ
changed_line m = line "changed" (m.0 ∷ m.1 ∷ [])

-- the line of a note: its number, its element
unfoldable pub note_line : ℕ × ℕ → List ℕ
note_line m = line "note" (m.0 ∷ m.1 ∷ [])

-- pairs out of two arrays of n words, one behind the other
unfoldable pub pairs_at : List ℕ → ℕ → ℕ → List (ℕ × ℕ)
pairs_at b from n = zip (words n (drop from b)) (words n (drop (from + 4 * n) b))

-- the lines of n elements, of t bytes of text, of c changed elements and of m notes, as they stand behind the sizes in the bytes b
unfoldable pub array_lines : List ℕ → ℕ → ℕ → ℕ → ℕ → List ℕ
array_lines b n t c m =
    flat_map element_line (pairs_at b 24 n)
    ++ text_line (take t (drop (text_at n c m) b))
    ++ (flat_map changed_line (pairs_at b (24 + 8 * n) c) ++ flat_map note_line (pairs_at b (24 + 8 * n + 8 * c) m))

pub digits_length : (k n : ℕ) → length (digits k n) ≤ k
unfolding digits
digits_length zero n = omega arith
digits_length (suc k) n = go (ltb n 10) (digits_length k (n / 10))
  where
    go : (b : Bool) → length (digits k (n / 10)) ≤ k → length (cond b ((48 + n) ∷ []) (digits k (n / 10) ++ ((48 + n % 10) ∷ []))) ≤ suc k
    go true h = omega arith
    go false h = omega (arith, length-append (digits k (n / 10)) ((48 + n % 10) ∷ []))

pub spaced_length : (n : ℕ) → length (spaced n) ≤ 11
unfolding spaced decimal
spaced_length n = omega (arith, digits_length 10 n)

-- texts of at most k bytes each
pub texts_length : {A : Type 0} (f : A → List ℕ) (k : ℕ) → ((x : A) → length (f x) ≤ k) → (l : List A) → length (flat_map f l) ≤ k * length l
unfolding flat_map
texts_length f k h [] = omega arith
texts_length f k h (x ∷ l) = omega (arith, length-append (f x) (flat_map f l), h x, texts_length f k h l)

pub line_of_length : (name ns : List ℕ) → length (line_of name ns) ≤ length name + 11 * length ns + 1
unfolding line_of
line_of_length name ns = simp length-append (omega (arith, texts_length spaced 11 spaced_length ns))

-- ── Lengths of lines, and of arrays of pairs ────────────────────────────────────────────────────────────────

-- a line whose word is known
line_length : (name ns : List ℕ) (k : ℕ) → length name + 11 * length ns + 1 ≤ k → length (line_of name ns) ≤ k
line_length name ns k h = omega (arith, line_of_length name ns)

pub pair_length : (name : List ℕ) (m : ℕ × ℕ) → length (pair_line name m) ≤ length name + 23
unfolding pair_line
pair_length name m = line_length name (m.0 ∷ m.1 ∷ []) (length name + 23) (omega arith)

pub element_length : (e : ℕ × ℕ) → length (element_line e) ≤ 24
unfolding element_line line line_of spaced ascii
element_length e = go (is_node e.0)
  where
    go : (b : Bool) → length (line (cond b "n" "t") (kind_of e.0 ∷ e.1 ∷ [])) ≤ 24
    go true = line_length (110 ∷ []) (kind_of e.0 ∷ e.1 ∷ []) 24 (omega arith)
    go false = line_length (116 ∷ []) (kind_of e.0 ∷ e.1 ∷ []) 24 (omega arith)

pub changed_length : (m : ℕ × ℕ) → length (changed_line m) ≤ 30
unfolding changed_line line line_of spaced ascii
changed_length m = line_length (99 ∷ 104 ∷ 97 ∷ 110 ∷ 103 ∷ 101 ∷ 100 ∷ []) (m.0 ∷ m.1 ∷ []) 30 (omega arith)

pub hex_length : (b : ℕ) → length (hex b) ≤ 2
unfolding hex
hex_length b = omega arith

pub text_length : (text : List ℕ) → length (text_line text) ≤ 2 * length text + 6
unfolding text_line line line_of spaced ascii
text_length [] = line_length (116 ∷ 101 ∷ 120 ∷ 116 ∷ []) [] 6 (omega arith)
text_length (b ∷ text) =
    let h = texts_length hex 2 hex_length (b ∷ text) in
    let m = length-append (flat_map hex (b ∷ text)) (10 ∷ []) in
    let n = length-append (116 ∷ 101 ∷ 120 ∷ 116 ∷ 32 ∷ []) (flat_map hex (b ∷ text)) in
    let k = length-append ((116 ∷ 101 ∷ 120 ∷ 116 ∷ 32 ∷ []) ++ flat_map hex (b ∷ text)) (10 ∷ []) in
    omega arith

-- of the definition's zip: the library's laws are of its own
module _ {A B : Type 0} where
  zip_length : (l : List A) (m : List B) → length l ≡ length m → length (zip l m) ≡ length l
  zip_length l m e = sym (length-map (zip l m) (λ e. e.0)) ∙ ap length (first_zip l m e)

  get_d_zip : (l : List A) (m : List B) (x : A) (y : B) (i : ℕ) → i < length l → length l ≡ length m → get_or (zip l m) i (x, y) ≡ (get_or l i x, get_or m i y)
  unfolding zip
  get_d_zip [] m x y i h e = absurd (omega arith)
  get_d_zip (a ∷ l) [] x y i h e = absurd (omega arith)
  get_d_zip (a ∷ l) (b ∷ m) x y zero h e = refl
  get_d_zip (a ∷ l) (b ∷ m) x y (suc i) h e = get_d_zip l m x y i (omega arith) (omega arith)

module _ (b : List ℕ) (from n : ℕ) where
  pub pairs_length : length (pairs_at b from n) ≡ n
  unfolding pairs_at
  pairs_length =
      let p = length_words n (drop from b) in
      let q = length_words n (drop (from + 4 * n) b) in
      zip_length (words n (drop from b)) (words n (drop (from + 4 * n) b)) (omega arith) ∙ p

  pub pair_at : (i : ℕ) → i < n → get_or (pairs_at b from n) i (0, 0) ≡ (word (drop (from + 4 * i) b), word (drop (from + 4 * n + 4 * i) b))
  unfolding pairs_at
  pair_at i h =
      let p = length_words n (drop from b) in
      let q = length_words n (drop (from + 4 * n) b) in
      get_d_zip (words n (drop from b)) (words n (drop (from + 4 * n) b)) 0 0 i (omega arith) (omega arith)
      ∙ rw (get_d_words n (drop from b) i h, get_d_words n (drop (from + 4 * n) b) i h, drop-drop (4 * i) from b, drop-drop (4 * i) (from + 4 * n) b)
