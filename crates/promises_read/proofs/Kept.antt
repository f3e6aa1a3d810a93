-- EDGE RULE 1 (document 02, Note 6), of every call that keeps its promise: no own insertion is lost.
-- Assumes nothing.
use Rattle.std.specs.Prelude.{◌≡◌, true, List, ℕ}
use Rattle.orders.specs.Splices.{one_go}
use Rattle.definition.specs.Basics.{Answer, gives, ◌>>=◌}
use Rattle.definition.specs.Choices.{Choices}
use Rattle.definition.specs.Refusals.{Accepted, accepted}
use Rattle.definition.specs.Running.{World}
use Rattle.definition.specs.Finishing.{result}
use Rattle.definition.specs.Answers.{Plan, plan, performed, ran, edit}
use Rattle.definition.specs.Performed.{splices}
use Rattle.definition_laws.specs.Answers.{both_given}
use Rattle.definition_account.specs.Words.{keeps_root, no_dependent_in0}
use Rattle.definition_edge.specs.Kept.{Kept1}
use Rattle.definition_edge.proofs.Kept.{kept_by_rule_1}
use Rattle.result_laws.proofs.Worded.{Bytes}
use Rattle.promises.specs.Promises.{Edits}
use Rattle.promises_read.proofs.Demand1.{demand_1}
use Rattle.promises_read.specs.Demand3.{Shown}
use Rattle.promises_read.proofs.Demand3.{demand_3_answered}

-- By rule 1, a batch that is not refused, does not replace the root of tree 0 and has no dependent change ending there: the result slice shows the one-go tree, and what
-- each own change puts into tree 0 stands in it (`Kept1`, its field `own`).
pub rule_1_answered : (h : Choices) (b held : List ℕ) (work : List (List ℕ)) (r : Answer ℕ) (holds : List ℕ) (left : List (List ℕ)) → Edits h b held work r holds left → Bytes b → h.edge ≡ 1
    → (n : ℕ) → r ≡ gives n → (a : Accepted) (p : Plan) → accepted b ≡ gives a → plan h a ≡ gives p → keeps_root a.table (performed a p) ≡ true → no_dependent_in0 a.table (performed a p) ≡ true
    → (w : World) × (k : Kept1 h b a p w) × Shown (one_go (splices a p) k.old) n holds
unfolding edit ◌>>=◌
rule_1_answered h b held work r holds left q y rule n e a p x z root aside =
    let f = (demand_1 h b held work r holds left q).finished n e in
    let (w, i, u) = both_given (ran a p) (λ w. gives (result p.changes p.climbs w)) (rw (x, z) at f.edits) in
    let k = kept_by_rule_1 h b a p w (record { rule = rule; accepted = x; planned = z; ran = i; unreplaced = root; aside = aside }) in
    (w, k, (demand_3_answered h b held work r holds left q y n e a p x z k.old k.apart).1)
