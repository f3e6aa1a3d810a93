-- What is printed of an answer and the slice that holds its result, and that it is what is printed of the edit.
-- Assumes nothing.
use Rattle.std.specs.Prelude.{◌≡◌, Result, Ok, Err, false, ℕ, ◌≤◌, length, take}
use Rattle.std.proofs.Math.Path.{refl, sym, ap}
use Rattle.std.proofs.Common.{◌∙◌, take_all}
use mathlib.Core.List.{List, [], append-nil}
use native.Mathlib.Omega.{arith}
use Rattle.definition.specs.Basics.{gives, refused, ◌>>=◌}
use Rattle.definition.specs.Choices.{Choices, chosen}
use Rattle.definition.specs.Basics as basics
use Rattle.definition.specs.Finishing.{encoded}
use Rattle.definition.specs.Answers.{too_short, edited}
use Rattle.definition.specs.Printed.{print, printed}
use Rattle.definition_laws.specs.Answers.{refused_gives}
use Rattle.definition_laws.proofs.Limits.{edit_within}
use Rattle.promises.specs.Slices.{needed, lengths}
use Rattle.refusals.specs.Numbers.{number, answered}
use Rattle.refusals.specs.declared.Refusal.{Refusal}
use Rattle.promises.specs.Promises.{Edits, applied, wrongly_chosen}
use Rattle.result_laws.proofs.Worded.{Bytes, edit_worded}
use Rattle.result_laws.specs.Decoded.{decoded}
use Rattle.result_laws.proofs.Encoded.{decoded_encoded}
use Rattle.edit_print.specs.Printable.{Printable, encoded_printable}
use Rattle.edit_print.specs.Lines.{Put}
use Rattle.promises_read.specs.Answered.{answer_in}
use Rattle.promises_read.specs.Printing.{printed_run}
use Rattle.promises_read.proofs.Demand1.{demand_1}
use Rattle.promises_read.proofs.Demand3.{finished_read}

-- the bytes of a result that is n bytes long are in the slice, and can be printed
pub record Holds (n : ℕ) (result : List ℕ) (room : ℕ) : Type 0 where
  pub inside : n ≤ length result
  pub counted : n ≡ length (take n result)
  pub printable : Printable (take n result) room

-- an answer can be printed into so much room
abbrev pub Showable : Result ℕ Refusal → List ℕ → ℕ → Type 0
Showable (Err k) result room = 19 ≤ room
Showable (Ok n) result room = Holds n result room

-- what is printed of an answer, whose result stands at the front of the slice
abbrev pub told : Result ℕ Refusal → List ℕ → List ℕ
told (Err k) result = print (refused (number k))
told (Ok n) result = print (gives (decoded (take n result)))

module _ (h : Choices) (b held : List ℕ) (work : List (List ℕ)) (holds : List ℕ) (left : List (List ℕ)) where
  pub edit_showable : (r : Result ℕ Refusal) (room : ℕ) → 190000 ≤ room → Edits h b held work (answered r) holds left → Showable r holds room
  unfolding answered
  edit_showable (Err k) room m p = omega arith
  edit_showable (Ok n) room m p =
      let d = demand_1 h b held work (gives n) holds left p in
      let f = d.finished n refl in
      record {
        inside = omega (arith, f.room, d.holds_length);
        counted = rw f.front (sym f.size);
        printable = rw f.front (encoded_printable f.result (edit_within h b f.result f.edits) room m);
      }

  -- the bytes of the result alone are read as the whole slice is
  edit_told : (r : Result ℕ Refusal) → Bytes b → Edits h b held work (answered r) holds left → told r holds ≡ print (answer_in (answered r) holds)
  unfolding answered answer_in
  edit_told (Err k) v p = refl
  edit_told (Ok n) v p =
      let f = (demand_1 h b held work (gives n) holds left p).finished n refl in
      let R = f.result in
      let alone : decoded (take n holds) ≡ R = decoded_encoded R (take n holds) [] (f.front ∙ sym (append-nil (encoded R))) (edit_within h b R f.edits) (edit_worded h b R v f.edits) in
      ap (λ x. print (gives x)) (alone ∙ sym (finished_read h b held n holds v f))

-- ── By the answer ───────────────────────────────────────────────────────────────────────────────────────────

module _ {r : Result ℕ Refusal} (result : List ℕ) where
  pub refused_room : {k : Refusal} (room : ℕ) → r ≡ Err k → Showable r result room → 19 ≤ room
  refused_room {k} room e h = rw e at h

  pub edited_holds : {n : ℕ} (room : ℕ) → r ≡ Ok n → Showable r result room → Holds n result room
  edited_holds {n} room e h = rw e at h

  pub edited_printable : {n : ℕ} (room : ℕ) → r ≡ Ok n → Showable r result room → Printable (take n result) room
  edited_printable room e h = (edited_holds room e h).printable

  pub refused_told : {k : Refusal} {n : ℕ} {d l : List ℕ} {to : ℕ} → r ≡ Err k → n ≡ number k → Put d 0 (print (refused n)) l to → Put d 0 (told r result) l to
  refused_told e q p = rw (e, ← q) p

  pub edited_told : {n : ℕ} {d l : List ℕ} {to : ℕ} → r ≡ Ok n → Put d 0 (print (gives (decoded (take n result)))) l to → Put d 0 (told r result) l to
  edited_told e p = rw e p

-- an answer, with its result at the front of the slice, tells what the definition prints of the batch by these choices
pub record Tells (h : Choices) (b : List ℕ) (r : Result ℕ Refusal) (result : List ℕ) : Type 0 where
  pub showable : (room : ℕ) → 190000 ≤ room → Showable r result room
  pub tells : told r result ≡ printed h b

-- a wrong choice refuses the edit, and that is what is printed
wrong_tells : {h : Choices} {b held : List ℕ} {work : List (List ℕ)} {holds : List ℕ} {left : List (List ℕ)} (r : Result ℕ Refusal) (k : ℕ) → chosen h ≡ refused k → Edits h b held work (answered r) holds left → told r holds ≡ printed h b
unfolding printed answered edited applied ◌>>=◌
wrong_tells {h} {b} {held} {work} {holds} {left} r k c p = go r (p.answer ∙ rw (wrongly_chosen h (lengths needed work) (applied h b (length held)) k c) refl)
  where
    go : (r : Result ℕ Refusal) → answered r ≡ refused k → told r holds ≡ printed h b
    go (Err n) e = let y : number n ≡ k = cc in rw (c, y) refl
    go (Ok n) e = refused_gives (sym e)

-- where the slices are long enough, so does every answer that keeps its promise
pub edit_tells : {h : Choices} {b held : List ℕ} {work : List (List ℕ)} {holds : List ℕ} {left : List (List ℕ)} {r : Result ℕ Refusal} → Edits h b held work (answered r) holds left → 65536 ≡ length held → too_short (lengths needed work) ≡ false
    → length b ≤ 65536 → Bytes b → Tells h b r holds
edit_tells {h} {b} {held} {work} {holds} {left} {r} p e s n v =
    record { showable = λ room m. edit_showable h b held work holds left r room m p; tells = go (chosen h) refl }
  where
    go : (o : basics.Answer (Unit {0})) → chosen h ≡ o → told r holds ≡ printed h b
    go (refused k) c = wrong_tells r k c p
    go (gives u) c =
        let whole = take_all 65536 b n in
        edit_told h b held work holds left r v p ∙ printed_run h b held work (answered r) holds left (rw whole p) (rw whole v) c s (sym e)
