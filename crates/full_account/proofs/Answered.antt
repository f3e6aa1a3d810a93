-- NOTE 13, of every call of `edit` that keeps its promise: what stands in the result slice is a full account.
-- Assumes nothing.
use Rattle.std.specs.Prelude.{◌≡◌, true, List, ℕ, ◌<◌, length}
use Rattle.std.proofs.Common.{sym, ap, ◌∙◌, subst}
use Rattle.definition.specs.Basics.{Answer, gives, ◌>>=◌}
use Rattle.definition.specs.Choices.{Choices}
use Rattle.definition.specs.Refusals.{Accepted, accepted}
use Rattle.definition.specs.Running.{World}
use Rattle.definition.specs.Finishing.{Result, result}
use Rattle.definition.specs.Answers.{Plan, plan, performed, ran, edit}
use Rattle.definition_laws.specs.Answers.{gives_inj, given}
use Rattle.definition_account.specs.Words.{keeps_root, no_dependent_in0}
use Rattle.result_laws.proofs.Worded.{Bytes}
use Rattle.result_laws.specs.Decoded.{decoded}
use Rattle.promises.specs.Promises.{Edits}
use Rattle.promises_read.proofs.Demand1.{demand_1}
use Rattle.promises_read.proofs.Demand3.{finished_read}
use Rattle.full_account.specs.Words.{changed_above, Accounted, sheet_of, sheet}
use Rattle.full_account.proofs.Holds.{accounted}
use Rattle.full_account.proofs.Suffices.{AsItWas, rest_as_it_was}

-- what a reader of the result slice counts there
pub record Counted (h : Choices) (b holds : List ℕ) : Type 0 where
  -- the batch, its plan, and what its steps leave
  pub batch : Accepted
  pub planned : Plan
  pub end : World
  pub accepts : accepted b ≡ gives batch
  pub plans : plan h batch ≡ gives planned
  pub runs : ran batch planned ≡ gives end
  -- counted with the elements and the changed numbers of the slice, the sheet is the batch's own
  pub counts : sheet h b ≡ gives (sheet_of batch planned end (decoded holds))
  -- NOTE 13: "every element of the new tree .. for an accepted batch that does not replace the root and has no dependent change ending in tree 0"
  pub full : keeps_root batch.table (performed batch planned) ≡ true → no_dependent_in0 batch.table (performed batch planned) ≡ true → Accounted batch planned end (decoded holds)
  -- "Our release reviewers read only the changed elements. Show that this suffices": each element at or below none of them is an old element as it was
  pub rest : no_dependent_in0 batch.table (performed batch planned) ≡ true → (n : ℕ) → n < length (decoded holds).kinds → changed_above (decoded holds) n ≡ 0 → AsItWas batch.table batch.trees end (decoded holds) n

finished_counted : (h : Choices) (b holds : List ℕ) (R : Result) → edit h b ≡ gives R → decoded holds ≡ R → Counted h b holds
unfolding edit sheet ◌>>=◌
finished_counted h b holds R e read =
    given (accepted b) _ e λ a x e.
    given (plan h a) _ e λ p y e.
    given (ran a p) _ e λ w z e.
    let same : result p.changes p.climbs w ≡ decoded holds = gives_inj e ∙ sym read in
    record {
      batch = a;
      planned = p;
      end = w;
      accepts = x;
      plans = y;
      runs = z;
      counts = rw (x, y, z) (ap (λ (S : Result). gives (sheet_of a p w S)) same);
      full = λ r d. subst (Accounted a p w) same (accounted h b a p w x y z r d);
      rest = λ d. subst (λ (S : Result). (n : ℕ) → n < length S.kinds → changed_above S n ≡ 0 → AsItWas a.table a.trees w S n) same (rest_as_it_was h b a p w x y z d);
    }

-- Every call that keeps its promise and does not refuse, by whatever choices.
pub note_13_answered : (h : Choices) (b held : List ℕ) (work : List (List ℕ)) (r : Answer ℕ) (holds : List ℕ) (left : List (List ℕ)) → Edits h b held work r holds left → Bytes b → (n : ℕ) → r ≡ gives n → Counted h b holds
note_13_answered h b held work r holds left q y n e =
    let f = (demand_1 h b held work r holds left q).finished n e in
    finished_counted h b holds f.result f.edits (finished_read h b held n holds y f)
