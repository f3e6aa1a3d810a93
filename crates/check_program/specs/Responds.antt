-- What stands at the front of the output, of claims as bytes.
-- Assumes nothing.
use Rattle.std.specs.Prelude.{◌≡◌, refl, Bool, List, ℕ, ◌≤◌, length, take}
use Rattle.std.proofs.Common.{sym, ap, ◌∙◌, arith, length-take-le, take_all}
use Rattle.std.proofs.lemmas.List.{take-take}
use Rattle.program_input.specs.Told.{Prints}
use Rattle.definition.specs.Basics.{Answer, ◌>>=◌}
use Rattle.check_laws.specs.Check.{checked}
use Rattle.check_laws.specs.Layout.{claims_of, verdict_line, claim_printed}
use Rattle.edit_print.specs.Lines.{Put, put_fits, put_front}

-- the answer to claims as bytes
unfoldable pub answered : List ℕ → Answer Bool
answered b = claims_of b >>= checked

-- no more of the input is judged than the buffer has room for
pub judged_in_room : (bs : List ℕ) → claim_printed (take 262144 bs) ≡ claim_printed bs
unfolding claim_printed
judged_in_room bs = rw (take-take 262144 262144 bs (omega arith)) refl

pub responds : (b : List ℕ) {a : Answer Bool} {d l : List ℕ} {to : ℕ} → length b ≤ 262144 → a ≡ answered b → Put d 0 (verdict_line a) l to → length l ≡ length d → Prints claim_printed b l to
unfolding claim_printed answered
responds b {a} {d} {l} {to} w e p k = record {
  fits = (put_fits p k, sym (length-take-le to l (put_fits p k)));
  says = put_front p k ∙ (ap verdict_line e ∙ ap (λ (x : List ℕ). verdict_line (claims_of x >>= checked)) (sym (take_all 262144 b w)));
}
