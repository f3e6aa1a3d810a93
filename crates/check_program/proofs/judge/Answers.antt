-- `judge` meets its contract.
-- Assumes nothing.
use Rattle.check_program.proofs.Ways.{short_claim, other_length, right_length, front_words, texts_left}
use Rattle.check_claim.specs.Judging.{answer_of}
use Rattle.refusals.specs.Numbers.{number}
use native.Mathlib.Omega.{arith}
use mathlib.Core.Path.{ap, ◌∙◌}
use Rattle.check_laws.specs.Check.{checked}
use lib.ListN.{length, replicate}
use Prim.Native.Nat.{ℕ, ◌+◌, ◌-◌, ◌*◌}
use Rattle.check_program.proofs.judge.Goals as goal

pub returns-then-claim-lt32 : goal.returns-then-claim-lt32
unfolding answer_of number
returns-then-claim-lt32 c = short_claim _ (omega arith)

pub returns-then-claim-n : goal.returns-then-claim-n
unfolding answer_of number
returns-then-claim-n c = other_length _ (omega arith) c.read_word-old_kinds.ensures.0 c.read_word-old_measures.ensures.0 c.read_word-old_text.ensures.0 c.read_word-new_kinds.ensures.0 c.read_word-new_measures.ensures.0 c.read_word-new_text.ensures.0 c.read_word-pairs.ensures.0 c.read_word-changed.ensures.0 c.if-claim-n.true

pub returns : goal.returns
returns c =
    let n : ℕ = c.read_word-old_kinds.result + c.read_word-old_measures.result + c.read_word-new_kinds.result + c.read_word-new_measures.result + 2 * c.read_word-pairs.result + c.read_word-changed.result in
    let x = c.args.claim.now in
    right_length x (omega arith) c.read_word-old_kinds.ensures.0 c.read_word-old_measures.ensures.0 c.read_word-old_text.ensures.0 c.read_word-new_kinds.ensures.0 c.read_word-new_measures.ensures.0 c.read_word-new_text.ensures.0 c.read_word-pairs.ensures.0 c.read_word-changed.ensures.0 (omega arith)
    (front_words n _ (replicate 65536 0) _ c.read_words.ensures (omega arith))
    (texts_left x (32 + 4 * n) (length x - (32 + 4 * n)) (omega arith))
    (c.judge_claims.ensures ∙ ap checked c.cut-claims.ensures)
