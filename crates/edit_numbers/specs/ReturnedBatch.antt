-- What the exported writer returns, as one number, and what it promises.
-- Assumes nothing.
use Rattle.std.specs.Prelude.{◌≡◌, ℕ, ◌≤◌, ltb, ℤ, pos, neg_ℤ}
use Rattle.std.proofs.Math.Path.{refl, ap}
use Rattle.std.proofs.Common.{◌∙◌, arith, length-append}
use mathlib.Core.List.{List}
use Rattle.std.proofs.Math.ListN.{length}
use mir.Syntax.{w64}
use mir.Val.{to_z, of_z}
use Rattle.orders.specs.ListLaws.{either_false}
use Rattle.definition.specs.Basics.{Answer, refused, gives, ◌>>=◌, refuse, is_refused, any}
use Rattle.definition.specs.Refusals.{accepted}
use Rattle.definition.specs.Answers.{too_short, with_work}
use Rattle.definition.specs.Writing.{Lists, sizes_of, seven_sizes, laid_out, unlayable, wrong_lists, write}
use Rattle.definition_laws.specs.Answers.{gives_inj, given, not_wrong}
use Rattle.words.specs.Bytes.{length_written}
use Rattle.promises.specs.Slices.{lengths, zeroed}
use Rattle.promises.specs.Promises.{left_in}
use Rattle.promises.specs.Writing.{writer_needs, wrote, Writes}
use Rattle.promises_read.specs.Refused.{by_number}
use Rattle.promises_read.specs.Written.{write_numbers}
use Rattle.promises_read.proofs.Written.{wrote_by}
use Rattle.write_laws.specs.CallWords.{length_calls}
use Rattle.write_laws.specs.RoundTrip.{InStep, layable}
use Rattle.edit_numbers.specs.Negated.{neg_told, pos_told}
use Rattle.edit_numbers.specs.Returned.{returned}

-- ── The promise ─────────────────────────────────────────────────────────────────────────────────────────────

-- THE PROMISE of `syntax_write`, from the lists l, the destination and the work slices as they were lent
pub record ReturnsBatch (l : Lists) (held : List ℕ) (work : List (List ℕ)) (r : ℤ) (holds : List ℕ) (left : List (List ℕ)) : Type 0 where
  -- the length of the batch, or the refusal's number with a minus
  pub answer : r ≡ returned (wrote work l (length held))
  -- "A refused write leaves the destination untouched"; else it holds the batch and beyond it what it held
  pub destination : holds ≡ left_in held (wrote work l (length held))
  -- work slices end as zeros
  pub zeros : left ≡ zeroed work

-- ── A length or a refusal as one number ─────────────────────────────────────────────────────────────────────

-- a refusal with a minus
unfoldable pub length_number : Answer ℕ → ℤ
length_number (refused n) = neg_ℤ (pos n)
length_number (gives n) = pos n

-- what is told is small
unfoldable pub Few : Answer ℕ → Type 0
Few (refused n) = n ≤ 134217728
Few (gives n) = n ≤ 134217728

-- the number is read back as it was written
pub length_read : (a : Answer ℕ) → Few a → to_z w64 (of_z w64 (length_number a)) ≡ length_number a
unfolding Few length_number
length_read (refused n) h = neg_told n h
length_read (gives n) h = pos_told n h

-- ── The bytes are few ───────────────────────────────────────────────────────────────────────────────────────

-- lists within their limits make a batch that the draft has room for
laid_short : (l : Lists) → InStep l → length (laid_out l) ≤ 49180
unfolding laid_out seven_sizes sizes_of
laid_short l y =
    simp (length-append, length_written)
    (omega (arith, length_calls l.operations l.counts l.rules y.counts y.rules, y.measures, y.targets, y.outputs, y.numbers, y.limits.elements, y.limits.text, y.limits.calls, y.limits.listed, y.limits.mappings, y.limits.notes))

-- A batch that is written has at most 49,180 bytes.
pub wrote_short : (work : List (List ℕ)) (l : Lists) (room : ℕ) (b : List ℕ) → wrote work l room ≡ gives b → length b ≤ 49180
unfolding wrote with_work write wrong_lists
wrote_short work l room b e =
    given (refuse 1 (too_short (lengths writer_needs work))) _ e λ u x e.
    given (refuse 14 (wrong_lists l)) _ e λ u y e.
    given (refuse 15 (ltb room (length (laid_out l)))) _ e λ u z e.
    let (right, q) = either_false (unlayable l) (is_refused (accepted (laid_out l))) (not_wrong 14 _ y) in
    rw (← gives_inj e) (laid_short l (layable l right).step)

-- ── From what is written ────────────────────────────────────────────────────────────────────────────────────

module _ {l : Lists} {held holds : List ℕ} {work left : List (List ℕ)} {a : Answer ℕ} (s : Writes l held work a holds left) where
  abbrev x : Answer (List ℕ)
  x = wrote work l (length held)

  -- what the writer tells is small
  pub write_small : Few a
  unfolding Few ◌>>=◌ any
  write_small = rw s.answer (go x (λ n. by_number write_numbers 1 15 n x refl (wrote_by work l (length held))) (wrote_short work l (length held)))
    where
      go : (o : Answer (List ℕ)) → ((n : ℕ) → o ≡ refused n → (1 ≤ n) × (n ≤ 15)) → ((bytes : List ℕ) → o ≡ gives bytes → length bytes ≤ 49180) → Few (o >>= λ bytes. gives (length bytes))
      go (refused n) h k = omega (arith, (h n refl).1)
      go (gives bytes) h k = omega (arith, k bytes refl)

  -- and its number is what is promised
  pub write_returned : (z : ℤ) → z ≡ length_number a → ReturnsBatch l held work (to_z w64 (of_z w64 z)) holds left
  unfolding length_number returned ◌>>=◌
  write_returned z q = record { answer = ap (λ (y : ℤ). to_z w64 (of_z w64 y)) q ∙ (length_read a write_small ∙ (ap length_number s.answer ∙ go x)); destination = s.destination; zeros = s.zeros }
    where
      go : (o : Answer (List ℕ)) → length_number (o >>= λ bytes. gives (length bytes)) ≡ returned o
      go (refused n) = refl
      go (gives bytes) = refl
