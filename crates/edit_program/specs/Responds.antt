-- What stands at the front of the output, of a batch.
-- Assumes nothing.
use Rattle.std.specs.Prelude.{◌≡◌, refl, Result, List, ℕ, length, take}
use Rattle.std.proofs.Common.{sym, ◌∙◌, arith, length-take-le}
use Rattle.std.proofs.lemmas.List.{take-take}
use Rattle.program_input.specs.Told.{Prints}
use Rattle.definition.specs.Choices.{Choices}
use Rattle.definition.specs.Printed.{printed}
use Rattle.edit_print.specs.Lines.{Put, put_fits, put_front}
use Rattle.refusals.specs.declared.Refusal.{Refusal}
use Rattle.edit_program.specs.Told.{told, Tells}

-- no more of the input is judged than the buffer has room for
pub judged_in_room : (h : Choices) (bs : List ℕ) → printed h (take 65536 bs) ≡ printed h bs
unfolding printed
judged_in_room h bs = rw (take-take 65536 65536 bs (omega arith)) refl

-- what is shown of an answer that tells of the batch
pub responds : {h : Choices} (b : List ℕ) (r : Result ℕ Refusal) (result : List ℕ) {d l : List ℕ} {to : ℕ} → Tells h b r result → Put d 0 (told r result) l to → length l ≡ length d → Prints (printed h) b l to
responds b r result {d} {l} {to} t p e = record {
  fits = (put_fits p e, sym (length-take-le to l (put_fits p e)));
  says = put_front p e ∙ t.tells;
}
