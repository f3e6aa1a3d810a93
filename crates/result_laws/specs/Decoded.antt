-- A result read back out of its bytes.
-- Assumes nothing.
use Rattle.std.specs.Prelude.{List, ℕ, ◌+◌, ◌*◌, take, drop}
use Rattle.definition.specs.Words.{word, words}
use Rattle.definition.specs.Finishing.{Result}

-- where the text stands, behind n elements, c changed elements and m notes
abbrev pub text_at : ℕ → ℕ → ℕ → ℕ
text_at n c m = 24 + 8 * n + 8 * c + 8 * m

-- the result that sizes and arrays tell
unfoldable pub told : List ℕ → ℕ → ℕ → ℕ → ℕ → ℕ → ℕ → Result
told b n t c m discarded climbs = record {
  kinds = words n (drop 24 b);
  measures = words n (drop (24 + 4 * n) b);
  changed = words c (drop (24 + 8 * n) b);
  rules = words c (drop (24 + 8 * n + 4 * c) b);
  numbers = words m (drop (24 + 8 * n + 8 * c) b);
  noted = words m (drop (24 + 8 * n + 8 * c + 4 * m) b);
  text = take t (drop (text_at n c m) b);
  discarded = discarded;
  climbs = climbs;
}

-- the result whose bytes these are
unfoldable pub decoded : List ℕ → Result
decoded b = told b (word b) (word (drop 4 b)) (word (drop 8 b)) (word (drop 12 b)) (word (drop 16 b)) (word (drop 20 b))
