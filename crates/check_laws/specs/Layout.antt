-- Claims as bytes, and what the program `check` prints of them.
-- Assumes nothing.
use Rattle.std.specs.Prelude.{Bool, true, false, not, List, [], ◌∷◌, ℕ, ◌+◌, ◌*◌, length, take, drop, ltb, eqb}
use Rattle.definition.specs.Basics.{Answer, refused, gives, ◌>>=◌, refuse}
use Rattle.definition.specs.Printed.{line}
use Rattle.definition.specs.Words.{word, words}
use Rattle.check_laws.specs.Check.{Claims, checked}

-- Eight words come first: how many kind words, measures and bytes of text the old tree has, how many the new one has, how many pairs and changed elements there are.
unfoldable pub size_of : List ℕ → ℕ → ℕ
size_of b k = word (drop (4 * k) b)

-- how many words the lists have: a pair has two
unfoldable pub list_words : List ℕ → ℕ
list_words b = size_of b 0 + size_of b 1 + size_of b 3 + size_of b 4 + 2 * size_of b 6 + size_of b 7

-- the lists one behind another: old kinds (of which there are a), old measures (b), new kinds (d), new measures (e), the old elements of the pairs (g), the new ones,
-- changed elements; then both texts, the old one of c bytes
abbrev pub claims_from : List ℕ → List ℕ → ℕ → ℕ → ℕ → ℕ → ℕ → ℕ → Claims
claims_from l t a b c d e g = record {
  old = record { kinds = take a l; measures = take b (drop a l); text = take c t };
  new = record { kinds = take d (drop (a + b) l); measures = take e (drop (a + b + d) l); text = drop c t };
  olds = take g (drop (a + b + d + e) l);
  news = take g (drop (a + b + d + e + g) l);
  changed = drop (a + b + d + e + g + g) l;
}

-- 2: fewer bytes than the eight words; 4: "The length differs from what the sizes give."
unfoldable pub claims_of : List ℕ → Answer Claims
claims_of b = do
  _ ← refuse 2 (ltb (length b) 32)
  _ ← refuse 4 (not (eqb (length b) (32 + 4 * list_words b + size_of b 2 + size_of b 5)))
  gives (claims_from (words (list_words b) (drop 32 b)) (drop (32 + 4 * list_words b) b) (size_of b 0) (size_of b 1) (size_of b 2) (size_of b 3) (size_of b 4) (size_of b 6))

-- what is printed of an answer
unfoldable pub verdict_line : Answer Bool → List ℕ
verdict_line (refused n) = line "refused" (n ∷ [])
verdict_line (gives true) = line "accepted" []
verdict_line (gives false) = line "rejected" []

-- the program's buffer; the longest claim that names no element twice has 147,488 bytes
abbrev pub claim_room : ℕ
claim_room = 262144

-- THE PROGRAM: what is printed of its input; of a longer one it judges the first 262,144 bytes
unfoldable pub claim_printed : List ℕ → List ℕ
claim_printed input = verdict_line (claims_of (take claim_room input) >>= checked)
