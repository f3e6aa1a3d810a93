-- `same_arrays` meets its contract.
use mathlib.Core.Path.{ap}
use mathlib.Core.Bool.{not}
use native.Mathlib.Omega.{arith}
use Rattle.series_tree.specs.Same.{other_size, other_length, other_kinds, other_measures, same_text}
use Rattle.series_tree.proofs.same_arrays.Goals as goal

pub returns-then-columns-n : goal.returns-then-columns-n
returns-then-columns-n c = other_size _ _ _ _ _ _ c.read_word-n.ensures c.read_word-m.ensures c.if-columns-n.true

pub returns-then-text-m : goal.returns-then-text-m
returns-then-text-m c = other_length _ _ _ _ _ _ c.read_word-n.ensures c.read_word-m.ensures (omega (arith, c.args.tree.now.whole, c.read_word-n.ensures.0, c.read_word-m.ensures.0)) c.if-text-m.true

pub returns-then-not-same_words : goal.returns-then-not-same_words
returns-then-not-same_words c = other_kinds _ _ _ _ _ _ c.read_word-n.ensures c.read_word-m.ensures c.if-columns-n.false c.same_words.ensures (ap not c.if-not-same_words.true)

pub returns-then-not-same_words-2 : goal.returns-then-not-same_words-2
returns-then-not-same_words-2 c = other_measures _ _ _ _ _ _ c.read_word-n.ensures c.read_word-m.ensures c.if-columns-n.false c.same_words.ensures (ap not c.if-not-same_words.false) c.same_words-2.ensures (ap not c.if-not-same_words-2.true)

pub returns : goal.returns
returns c = same_text _ _ _ _ _ _ c.read_word-n.ensures c.read_word-m.ensures c.if-columns-n.false c.same_words.ensures (ap not c.if-not-same_words.false) c.same_words-2.ensures (ap not c.if-not-same_words-2.false) c.same_bytes.ensures
