-- What each way out and each turn of a loop has written.
-- Assumes nothing.
use mathlib.Core.Path.{◌≡◌, refl, sym, ap, ◌∙◌}
use mathlib.Core.List.{List, [], ◌∷◌, ◌++◌, flat_map, append-nil, append_assoc}
use Prim.Native.Nat.{ℕ, suc, ◌+◌, ◌-◌, ◌*◌, ◌/◌, ◌%◌, ◌≤◌, ◌<◌}
use native.Mathlib.Nat.{mul-le-mul_left}
use native.Mathlib.Numerals.{add-one}
use native.Mathlib.Omega.{arith}
use borrow.Author.Tests.{lt-ltb, le-ltb, le-leb, lt-leb}
use lib.ListN.{length, get_or, set, take, drop, length-append, length-take, length-drop}
use lib.Seq.{paste, paste-zero, take-suc, take_all, length-take-le}
use Rattle.definition.specs.Printed.{ascii, digits, decimal, hex_digit, hex, line, element_line, text_line, print}
use Rattle.definition.specs.Basics.{refused, gives}
use Rattle.definition.specs.Finishing.{six_sizes}
use Rattle.definition.specs.Words.{word}
use Rattle.definition.specs.Elements.{is_node, kind_of}
use Rattle.words.specs.Bytes.{length_words}
use Rattle.words.specs.Parts.{set_paste}
use Rattle.definition_laws.specs.Basics.{flat_map_append}
use Rattle.result_laws.specs.Decoded.{told, decoded, text_at}
use Rattle.edit_print.specs.Printable.{Fits, Printable}
use Rattle.edit_print.specs.Lines.{Put, put_more, digits_length, spaced, spaced_length, texts_length, line_of, line_of_length, pairs_at, pairs_length, pair_at, pair_line, array_lines, changed_line, changed_length, note_line, element_length, hex_length, text_length}

-- ── A byte and digits ───────────────────────────────────────────────────────────────────────────────────────

pub put_nothing : (d : List ℕ) (at : ℕ) → Put d at [] d at
put_nothing d at = record { end = omega arith; is = paste-zero d at [] }

pub put_one : (d : List ℕ) (at b : ℕ) → at < length d → Put d at (b ∷ []) (set d at b) (at + 1)
put_one d at b h = record { end = refl; is = set_paste d at b h }

pub no_digit : (d : List ℕ) (at n : ℕ) {k : ℕ} → k ≡ 0 → Put d at (digits k n) d at
unfolding digits
no_digit d at n e = rw e (put_nothing d at)

-- k is no zero
one_less : (k : ℕ) → (k ≡ 0 → ⊥) → k ≡ suc (k - 1)
one_less k h = omega (arith, h)

pub one_digit : {d : List ℕ} {at n k : ℕ} {l : List ℕ} {to : ℕ} → (k ≡ 0 → ⊥) → n < 10 → Put d at ((48 + n) ∷ []) l to → Put d at (digits k n) l to
unfolding digits
one_digit {d} {at} {n} {k} {l} {to} z h p = rw (one_less k z, lt-ltb n 10 h) p

-- there is room for one digit more
pub digit_room : {d : List ℕ} {at : ℕ} (n : ℕ) {k : ℕ} {l : List ℕ} {to : ℕ} → (k ≡ 0 → ⊥) → at + k ≤ length d → Put d at (digits (k - 1) (n / 10)) l to → length l ≡ length d → to < length l
digit_room {d} {at} n {k} {l} {to} z r p e = omega (arith, one_less k z, digits_length (k - 1) (n / 10), p.end)

pub more_digits : {d : List ℕ} {at n k : ℕ} {l : List ℕ} {to : ℕ} {l' : List ℕ} {to' : ℕ} → (k ≡ 0 → ⊥) → 10 ≤ n → at + k ≤ length d → Put d at (digits (k - 1) (n / 10)) l to → Put l to ((48 + n % 10) ∷ []) l' to'
    → Put d at (digits k n) l' to'
unfolding digits
more_digits {d} {at} {n} {k} {l} {to} {l'} {to'} z h r p q =
    rw (one_less k z, le-ltb n 10 h) (put_more p q (omega (arith, digits_length (k - 1) (n / 10), p.end)))

pub number_put : {d : List ℕ} {at : ℕ} (n : ℕ) {l : List ℕ} {to : ℕ} {l' : List ℕ} {to' : ℕ} → at + 11 ≤ length d → Put d at (32 ∷ []) l to → Put l to (digits 10 n) l' to' → Put d at (spaced n) l' to'
unfolding spaced decimal
number_put n h p q = put_more p q (omega (arith, p.end))

-- ── Texts, one behind another ───────────────────────────────────────────────────────────────────────────────

-- l is d with the texts of the first i of xs, each of at most k bytes, written at `at`, up to `to`
pub record Putting {A : Type 0} (f : A → List ℕ) (k : ℕ) (xs : List A) (d : List ℕ) (at : ℕ) (l : List ℕ) (to i : ℕ) : Type 0 where
  pub inside : i ≤ length xs
  pub long : length l ≡ length d
  pub bound : to ≤ at + k * i
  pub room : at + k * length xs ≤ length d
  pub put : Put d at (flat_map f (take i xs)) l to

module _ {A : Type 0} (f : A → List ℕ) (k : ℕ) (xs : List A) where
  pub putting_start : (d : List ℕ) (at : ℕ) → at + k * length xs ≤ length d → Putting f k xs d at d at 0
  unfolding flat_map
  putting_start d at h = record { inside = omega arith; long = refl; bound = omega arith; room = h; put = put_nothing d at }

  module _ {d : List ℕ} {at : ℕ} {l : List ℕ} {to i : ℕ} (v : Putting f k xs d at l to i) where
    -- there is room for one text more
    pub putting_room : i < length xs → to + k ≤ length l
    putting_room h =
        let m : k * (i + 1) ≤ k * length xs = mul-le-mul_left k (omega arith) in
        let e : k * (i + 1) ≡ k * i + k = omega arith in
        omega (arith, v.long, v.bound, v.room)

    pub putting_next : (z x : A) {l' : List ℕ} {to' : ℕ} → i < length xs → x ≡ get_or xs i z → length (f x) ≤ k → length l' ≡ length l → Put l to (f x) l' to'
        → Putting f k xs d at l' to' (i + 1)
    unfolding flat_map
    putting_next z x {l'} {to'} h e s m p =
        let r = putting_room h in
        let t : k * (i + 1) ≡ k * i + k = omega arith in
        let joined : flat_map f (take (i + 1) xs) ≡ flat_map f (take i xs) ++ f x =
        rw (add-one i, take-suc xs i z h, flat_map_append f (take i xs) (get_or xs i z ∷ []), append-nil, e) in
        record {
          inside = omega arith;
          long = m ∙ v.long;
          bound = omega (arith, p.end, v.bound);
          room = v.room;
          put = rw joined (put_more v.put p (omega (arith, v.long)));
        }

    pub putting_done : length xs ≤ i → Put d at (flat_map f xs) l to
    putting_done h = rw (← take_all i xs h) v.put

pub numbers_next : {ns d : List ℕ} {at : ℕ} {l : List ℕ} {to i : ℕ} {l' : List ℕ} {to' : ℕ} → Putting spaced 11 ns d at l to i → i < length ns → length l' ≡ length l → Put l to (spaced (get_or ns i 0)) l' to'
    → Putting spaced 11 ns d at l' to' (i + 1)
numbers_next {ns} {i = i} v h m p = putting_next spaced 11 ns v 0 (get_or ns i 0) h refl (spaced_length (get_or ns i 0)) m p

-- ── A line ──────────────────────────────────────────────────────────────────────────────────────────────────

module _ (d name ns : List ℕ) {l : List ℕ} (at : ℕ) {l₂ : List ℕ} {to : ℕ} (room : at + length name + 11 * length ns + 1 ≤ length d) (n : l ≡ paste d at name (length name)) (p : Put l (at + length name) (flat_map spaced ns) l₂ to) where
  pub line_room : length l₂ ≡ length l → length l ≡ length d → to < length l₂
  line_room e f = omega (arith, p.end, texts_length spaced 11 spaced_length ns)

  pub line_put : {l₃ : List ℕ} {to' : ℕ} → Put l₂ to (10 ∷ []) l₃ to' → Put d at (line_of name ns) l₃ to'
  unfolding line_of
  line_put q =
      let named : Put d at name l (at + length name) = record { end = refl; is = n } in
      let s = texts_length spaced 11 spaced_length ns in
      put_more (put_more named p (omega arith)) q (omega (arith, p.end))

-- ── Text in hexadecimal ─────────────────────────────────────────────────────────────────────────────────────

pub low_digit : (n : ℕ) → n < 10 → 48 + n ≡ hex_digit n
unfolding hex_digit
low_digit n h = rw (lt-ltb n 10 h)

pub high_digit : (n : ℕ) → 10 ≤ n → 87 + n ≡ hex_digit n
unfolding hex_digit
high_digit n h = rw (le-ltb n 10 h)

pub hex_put : {d : List ℕ} {at : ℕ} (b : ℕ) {x y : ℕ} {l : List ℕ} {to : ℕ} {l' : List ℕ} {to' : ℕ} → at + 2 ≤ length d → x ≡ hex_digit (b / 16) → y ≡ hex_digit (b % 16) → Put d at (x ∷ []) l to
    → Put l to (y ∷ []) l' to' → Put d at (hex b) l' to'
unfolding hex
hex_put b h e f p q = rw (← e, ← f) (put_more p q (omega (arith, p.end)))

pub bytes_next : {text d : List ℕ} {at : ℕ} {l : List ℕ} {to i b : ℕ} {l' : List ℕ} {to' : ℕ} → Putting hex 2 text d at l to i → i < length text → b ≡ get_or text i 0 → length l' ≡ length l → Put l to (hex b) l' to'
    → Putting hex 2 text d at l' to' (i + 1)
bytes_next {text} {i = i} {b = b} v h e m p = putting_next hex 2 text v 0 b h e (hex_length b) m p

pub no_text : {d : List ℕ} {at : ℕ} (text : List ℕ) {l : List ℕ} {to : ℕ} → length text ≡ 0 → Put d at (line_of (116 ∷ 101 ∷ 120 ∷ 116 ∷ []) []) l to → Put d at (text_line text) l to
unfolding text_line line line_of ascii spaced
no_text [] e p = p
no_text (b ∷ text) e p = absurd (omega arith)

module _ (d text : List ℕ) {l : List ℕ} (at : ℕ) {l₂ : List ℕ} {to : ℕ} (room : at + 2 * length text + 6 ≤ length d) (n : l ≡ paste d at (116 ∷ 101 ∷ 120 ∷ 116 ∷ 32 ∷ []) 5) (p : Put l (at + 5) (flat_map hex text) l₂ to) where
  pub text_room : length l₂ ≡ length l → length l ≡ length d → to < length l₂
  text_room e f = omega (arith, p.end, texts_length hex 2 hex_length text)

  pub text_put : (length text ≡ 0 → ⊥) → {l₃ : List ℕ} {to' : ℕ} → Put l₂ to (10 ∷ []) l₃ to' → Put d at (text_line text) l₃ to'
  unfolding text_line ascii
  text_put h {l₃} {to'} q = go text h all
    where
      all : Put d at ((116 ∷ 101 ∷ 120 ∷ 116 ∷ 32 ∷ []) ++ flat_map hex text ++ (10 ∷ [])) l₃ to'
      all =
          let named : Put d at (116 ∷ 101 ∷ 120 ∷ 116 ∷ 32 ∷ []) l (at + 5) = record { end = refl; is = n } in
          let s = texts_length hex 2 hex_length text in
          put_more (put_more named p (omega arith)) q (omega (arith, p.end))

      go : (t : List ℕ) → (length t ≡ 0 → ⊥) → Put d at ((116 ∷ 101 ∷ 120 ∷ 116 ∷ 32 ∷ []) ++ flat_map hex t ++ (10 ∷ [])) l₃ to' → Put d at (text_line t) l₃ to'
      go [] k a = absurd (k refl)
      go (b ∷ t) k a = a

-- ── An element ──────────────────────────────────────────────────────────────────────────────────────────────

module _ {d : List ℕ} {at : ℕ} (kind measure : ℕ) {l : List ℕ} {to : ℕ} where
  pub token_put : kind < 2147483648 → Put d at (line_of (116 ∷ []) (kind % 65536 ∷ measure ∷ [])) l to → Put d at (element_line (kind, measure)) l to
  unfolding element_line is_node kind_of line line_of ascii spaced
  token_put h p = rw (lt-leb 2147483648 kind h) p

  pub node_put : 2147483648 ≤ kind → Put d at (line_of (110 ∷ []) (kind % 65536 ∷ measure ∷ [])) l to → Put d at (element_line (kind, measure)) l to
  unfolding element_line is_node kind_of line line_of ascii spaced
  node_put h p = rw (le-leb 2147483648 kind h) p

-- ── Arrays of the result ────────────────────────────────────────────────────────────────────────────────────

pub pair_put : {d : List ℕ} (name : List ℕ) {at : ℕ} (x y : ℕ) {l : List ℕ} {to : ℕ} → Put d at (line_of name (x ∷ y ∷ [])) l to → Put d at (pair_line name (x, y)) l to
unfolding pair_line
pair_put name x y p = p

-- the lines of changed elements and of notes are such lines
changed_pairs : (xs : List (ℕ × ℕ)) → flat_map (pair_line (99 ∷ 104 ∷ 97 ∷ 110 ∷ 103 ∷ 101 ∷ 100 ∷ [])) xs ≡ flat_map changed_line xs
unfolding pair_line changed_line line line_of ascii spaced
changed_pairs xs = refl

note_pairs : (xs : List (ℕ × ℕ)) → flat_map (pair_line (110 ∷ 111 ∷ 116 ∷ 101 ∷ [])) xs ≡ flat_map note_line xs
unfolding pair_line note_line line line_of ascii spaced
note_pairs xs = refl

pub changed_put : {d : List ℕ} {at : ℕ} (xs : List (ℕ × ℕ)) {l : List ℕ} {to : ℕ} → Put d at (flat_map (pair_line (99 ∷ 104 ∷ 97 ∷ 110 ∷ 103 ∷ 101 ∷ 100 ∷ [])) xs) l to → Put d at (flat_map changed_line xs) l to
changed_put xs p = rw (← changed_pairs xs) p

pub note_put : {d : List ℕ} {at : ℕ} (xs : List (ℕ × ℕ)) {l : List ℕ} {to : ℕ} → Put d at (flat_map (pair_line (110 ∷ 111 ∷ 116 ∷ 101 ∷ [])) xs) l to → Put d at (flat_map note_line xs) l to
note_put xs p = rw (← note_pairs xs) p

-- the pairs of two arrays of n words
module _ (f : ℕ × ℕ → List ℕ) (k : ℕ) (s : (e : ℕ × ℕ) → length (f e) ≤ k) (b : List ℕ) (from n : ℕ) where
  pub pairs_start : (d : List ℕ) (at : ℕ) → at + k * n ≤ length d → Putting f k (pairs_at b from n) d at d at 0
  pairs_start d at h = putting_start f k (pairs_at b from n) d at (rw (pairs_length b from n) h)

  module _ {d : List ℕ} {at : ℕ} {l : List ℕ} {to i : ℕ} (v : Putting f k (pairs_at b from n) d at l to i) where
    pub pairs_room : i < n → to + k ≤ length l
    pairs_room h = putting_room f k (pairs_at b from n) v (rw (pairs_length b from n) h)

    pub pairs_next : {x y : ℕ} {l' : List ℕ} {to' : ℕ} → i < n → x ≡ word (drop (from + 4 * i) b) → y ≡ word (drop (from + 4 * n + 4 * i) b) → length l' ≡ length l → Put l to (f (x, y)) l' to'
        → Putting f k (pairs_at b from n) d at l' to' (i + 1)
    pairs_next {x} {y} h p q m w =
        putting_next f k (pairs_at b from n) v (0, 0) (x, y) (rw (pairs_length b from n) h) (rw (p, q) (sym (pair_at b from n i h))) (s (x, y)) m w

    pub pairs_done : n ≤ i → Put d at (flat_map f (pairs_at b from n)) l to
    pairs_done h = putting_done f k (pairs_at b from n) v (rw (pairs_length b from n) h)

-- ── The parts of a result ───────────────────────────────────────────────────────────────────────────────────

part_length : (t from : ℕ) (b : List ℕ) → length (take t (drop from b)) ≤ t
part_length t from b = omega (arith, length-take t (drop from b))

module _ {d : List ℕ} {at : ℕ} {l : List ℕ} {to : ℕ} where
  elements_end : (b : List ℕ) (from n : ℕ) → Put d at (flat_map element_line (pairs_at b from n)) l to → to ≤ at + 24 * n
  elements_end b from n p = omega (arith, p.end, texts_length element_line 24 element_length (pairs_at b from n), ap (λ x. 24 * x) (pairs_length b from n))

  changed_end : (b : List ℕ) (from n : ℕ) → Put d at (flat_map changed_line (pairs_at b from n)) l to → to ≤ at + 30 * n
  changed_end b from n p = omega (arith, p.end, texts_length changed_line 30 changed_length (pairs_at b from n), ap (λ x. 30 * x) (pairs_length b from n))

  -- behind the elements there is room for the text
  pub tree_room : (b : List ℕ) (from n : ℕ) (text : List ℕ) → at + 24 * n + (2 * length text + 6) ≤ length d → length l ≡ length d → Put d at (flat_map element_line (pairs_at b from n)) l to
      → to + 2 * length text + 6 ≤ length l
  tree_room b from n text h e p = omega (arith, elements_end b from n p)

  pub tree_put : (b : List ℕ) (from n : ℕ) (text : List ℕ) {l' : List ℕ} {to' : ℕ} → at + 24 * n + (2 * length text + 6) ≤ length d → Put d at (flat_map element_line (pairs_at b from n)) l to
      → Put l to (text_line text) l' to' → Put d at (flat_map element_line (pairs_at b from n) ++ text_line text) l' to'
  tree_put b from n text h p q = put_more p q (omega (arith, elements_end b from n p))

  pub found_room : (b : List ℕ) (from c m : ℕ) → at + 30 * c + 27 * m ≤ length d → length l ≡ length d → Put d at (flat_map changed_line (pairs_at b from c)) l to → to + 27 * m ≤ length l
  found_room b from c m h e p = omega (arith, changed_end b from c p)

  pub found_put : (b : List ℕ) (from c m : ℕ) {s l' : List ℕ} {to' : ℕ} → at + 30 * c + 27 * m ≤ length d → Put d at (flat_map changed_line (pairs_at b from c)) l to → Put l to s l' to'
      → Put d at (flat_map changed_line (pairs_at b from c) ++ s) l' to'
  found_put b from c m h p q = put_more p q (omega (arith, changed_end b from c p))

-- ── The whole of it ─────────────────────────────────────────────────────────────────────────────────────────

pub refusal_put : {d : List ℕ} (k : ℕ) {l : List ℕ} {to : ℕ} → Put d 0 (line_of (114 ∷ 101 ∷ 102 ∷ 117 ∷ 115 ∷ 101 ∷ 100 ∷ []) (k ∷ [])) l to → Put d 0 (print (refused k)) l to
unfolding print line line_of ascii spaced
refusal_put k p = p

regroup : (a b c d e : List ℕ) → a ++ b ++ c ++ d ++ e ≡ a ++ (b ++ c ++ (d ++ e))
regroup a b c d e = simp append_assoc

-- what is printed of a result, in the parts that are written
told_printed : (b : List ℕ) (n t c m x y : ℕ) → text_at n c m + t ≤ length b → print (gives (told b n t c m x y)) ≡ line_of (111 ∷ 107 ∷ []) (n ∷ t ∷ c ∷ m ∷ x ∷ y ∷ []) ++ array_lines b n t c m
unfolding print told six_sizes pairs_at changed_line note_line line line_of ascii spaced array_lines
told_printed b n t c m x y h =
    let from = text_at n c m in
    let k : length (take t (drop from b)) ≡ t = length-take-le t (drop from b) (omega (arith, length-drop from b)) in
    rw (length_words n (drop 24 b), length_words c (drop (24 + 8 * n) b), length_words m (drop (24 + 8 * n + 8 * c) b), k)
    (regroup (line_of (111 ∷ 107 ∷ []) (n ∷ t ∷ c ∷ m ∷ x ∷ y ∷ [])) (flat_map element_line (pairs_at b 24 n)) (text_line (take t (drop from b))) (flat_map changed_line (pairs_at b (24 + 8 * n) c))
    (flat_map note_line (pairs_at b (24 + 8 * n + 8 * c) m)))

-- the arrays and the text, behind what stands already
module _ (b l : List ℕ) (n t c m at : ℕ) (room : at + 24 * n + 2 * t + 6 + 30 * c + 27 * m ≤ length l) where
  -- where the text stands
  abbrev texts : ℕ
  texts = text_at n c m

  -- there is room for the elements and the text
  pub text_fits : at + 24 * n + (2 * length (take (texts + t - texts) (drop texts b)) + 6) ≤ length l
  text_fits = let f : texts + t - texts ≡ t = omega arith in rw f (omega (arith, room, part_length t texts b))

  module _ {l₂ : List ℕ} {to₂ : ℕ} (p' : Put l at (flat_map element_line (pairs_at b 24 n) ++ text_line (take (texts + t - texts) (drop texts b))) l₂ to₂) where
    p : Put l at (flat_map element_line (pairs_at b 24 n) ++ text_line (take t (drop texts b))) l₂ to₂
    p = let f : texts + t - texts ≡ t = omega arith in rw f at p'

    treed_end : to₂ ≤ at + 24 * n + 2 * t + 6
    treed_end =
        let text = take t (drop texts b) in
        let k = length-append (flat_map element_line (pairs_at b 24 n)) (text_line text) in
        let j = texts_length element_line 24 element_length (pairs_at b 24 n) in
        let i = ap (λ x. 24 * x) (pairs_length b 24 n) in
        omega (arith, p.end, text_length text, part_length t texts b)

    -- and behind those for the changed elements and the notes
    pub treed_room : length l₂ ≡ length l → to₂ + 30 * c + 27 * m ≤ length l₂
    treed_room e = omega (arith, treed_end, room)

    pub arrays_put : {l₃ : List ℕ} {to₃ : ℕ} → Put l₂ to₂ (flat_map changed_line (pairs_at b (24 + 8 * n) c) ++ flat_map note_line (pairs_at b (24 + 8 * n + 8 * c) m)) l₃ to₃ → Put l at (array_lines b n t c m) l₃ to₃
    unfolding array_lines
    arrays_put q = put_more p q (omega (arith, treed_end, room))

-- the sizes, and what they tell behind their line
module _ (b d : List ℕ) {n t c m : ℕ} (e₁ : n ≡ word b) (e₂ : t ≡ word (drop 4 b)) (e₃ : c ≡ word (drop 8 b)) (e₄ : m ≡ word (drop 12 b)) (q : Printable b (length d)) where
  fits : Fits (length b) (length d) n t c m
  fits = rw (e₁, e₂, e₃, e₄) q

  pub arrays_whole : text_at n c m + t ≤ length b
  arrays_whole = fits.whole

  module _ (x y : ℕ) {l : List ℕ} {to : ℕ} (p : Put d 0 (line_of (111 ∷ 107 ∷ []) (n ∷ t ∷ c ∷ m ∷ x ∷ y ∷ [])) l to) where
    sized_end : to ≤ 69
    sized_end = omega (arith, p.end, line_of_length (111 ∷ 107 ∷ []) (n ∷ t ∷ c ∷ m ∷ x ∷ y ∷ []))

    pub sized_room : length l ≡ length d → to + 24 * n + 2 * t + 6 + 30 * c + 27 * m ≤ length l
    sized_room e = omega (arith, sized_end, fits.fits)

    pub result_put : {l' : List ℕ} {to' : ℕ} → x ≡ word (drop 16 b) → y ≡ word (drop 20 b) → Put l to (array_lines b n t c m) l' to' → Put d 0 (print (gives (decoded b))) l' to'
    unfolding decoded
    result_put e₅ e₆ r = rw (← e₁, ← e₂, ← e₃, ← e₄, ← e₅, ← e₆) (rw (told_printed b n t c m x y fits.whole) (put_more p r (omega (arith, sized_end, fits.fits))))
