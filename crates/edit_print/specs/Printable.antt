-- Bytes of a result that can be printed into the room that there is.
-- Assumes nothing.
use Rattle.std.proofs.Common.{sym, append-nil, arith}
use Rattle.std.specs.Prelude.{List, [], ℕ, ◌+◌, ◌*◌, ◌≤◌, length, drop}
use Rattle.definition.specs.Words.{word}
use Rattle.definition.specs.Finishing.{Result, encoded}
use Rattle.definition_laws.specs.Limits.{Within}
use Rattle.definition_laws.proofs.Limits.{encoded_length}
use Rattle.result_laws.specs.Decoded.{text_at}
use Rattle.result_laws.proofs.Encoded.{elements_read, text_read, changed_read, notes_read}

-- `long` bytes hold what the sizes say, and there is room for what is printed of it: at most 69 bytes for the sizes, 24 for an element, 6 and 2 for each byte
-- for the text, 30 for a changed element and 27 for a note
pub record Fits (long room n t c m : ℕ) : Type 0 where
  pub whole : text_at n c m + t ≤ long
  pub fits : 75 + 24 * n + 2 * t + 30 * c + 27 * m ≤ room

-- the bytes b can be printed into so much room
abbrev pub Printable : List ℕ → ℕ → Type 0
Printable b room = Fits (length b) room (word b) (word (drop 4 b)) (word (drop 8 b)) (word (drop 12 b))

-- A result within the limits can be printed into 190,000 bytes.
pub encoded_printable : (r : Result) → Within r → (room : ℕ) → 190000 ≤ room → Printable (encoded r) room
encoded_printable r w room h =
    let e = sym (append-nil (encoded r)) in
    rw (elements_read r (encoded r) [] e w, text_read r (encoded r) [] e w, changed_read r (encoded r) [] e w, notes_read r (encoded r) [] e w)
    (record {
      whole = omega (arith, encoded_length r w.measures w.ruled w.noted);
      fits = omega (arith, w.elements, w.text, w.changed, w.notes);
    })
