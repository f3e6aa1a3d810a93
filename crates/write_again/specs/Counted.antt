-- The sizes of a batch, whatever they are, and how many words stand behind them.
-- Assumes nothing.
use Rattle.std.specs.Prelude.{◌≡◌, List, ℕ, ◌+◌, ◌*◌, ◌^◌, ◌<◌, drop}
use Rattle.std.proofs.Common.{ap}
use Rattle.definition.specs.Batch as def
use Rattle.definition.specs.Batch.{sizes}
use Rattle.words.specs.Bytes.{Bytes, drop_bytes, word_small}
use Rattle.read_layout.specs.Layout.{sizes_of}
use Rattle.read_layout.specs.declared.Sizes.{Sizes}

abbrev pub word_count : Sizes → ℕ
word_count z = 2 * (z.elements + z.calls + z.mappings + z.notes) + z.listed

-- each size that counts something in the batch is a word
pub record Worded (z : Sizes) : Type 0 where
  pub elements : z.elements < 2 ^ 32
  pub text : z.text < 2 ^ 32
  pub calls : z.calls < 2 ^ 32
  pub listed : z.listed < 2 ^ 32
  pub mappings : z.mappings < 2 ^ 32
  pub notes : z.notes < 2 ^ 32

-- those that are read from some bytes are
pub worded : (z : Sizes) (b : List ℕ) → Bytes b → sizes_of z ≡ sizes b → Worded z
unfolding sizes
worded z b h e = record {
  elements = rw (ap (λ (s : def.Sizes). s.elements) e) (word_small (drop 4 b) (drop_bytes 4 b h));
  text = rw (ap (λ (s : def.Sizes). s.text) e) (word_small (drop 8 b) (drop_bytes 8 b h));
  calls = rw (ap (λ (s : def.Sizes). s.calls) e) (word_small (drop 12 b) (drop_bytes 12 b h));
  listed = rw (ap (λ (s : def.Sizes). s.listed) e) (word_small (drop 16 b) (drop_bytes 16 b h));
  mappings = rw (ap (λ (s : def.Sizes). s.mappings) e) (word_small (drop 20 b) (drop_bytes 20 b h));
  notes = rw (ap (λ (s : def.Sizes). s.notes) e) (word_small (drop 24 b) (drop_bytes 24 b h));
}
