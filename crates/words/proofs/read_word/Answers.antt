-- `read_word` meets its contract: its sum is what the four bytes say.
use native.Mathlib.Omega.{arith}
use Rattle.words.specs.Bytes.{word_drop}
use Rattle.words.proofs.read_word.Goals as goal

pub returns : goal.returns
returns c = rw word_drop (omega arith)
