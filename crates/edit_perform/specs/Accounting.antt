-- The account of a batch, by how far its run comes.
-- Assumes nothing.
use Rattle.std.specs.Prelude.{◌≡◌, ℕ, length}
use Rattle.std.proofs.Common.{sym, ap, ◌∙◌}
use mathlib.Core.List.{List, map}
use Rattle.std.proofs.Math.Option.{Option}
use Rattle.std.proofs.lemmas.List.{length-map}
use Rattle.definition.specs.Basics.{Answer, refused, gives, ◌>>=◌}
use Rattle.definition.specs.Choices.{Choices}
use Rattle.definition.specs.Refusals.{Accepted, accepted}
use Rattle.definition.specs.Planning.{Fate, Planned, changes_of, fated}
use Rattle.definition.specs.EdgeRule.{planned}
use Rattle.definition.specs.Running.{World}
use Rattle.definition.specs.Finishing.{result, fitting}
use Rattle.definition.specs.Answers.{withdrawing, remaining, judge_changes, Plan, rewrite_changes, plan, ran}
use Rattle.definition.specs.Printed.{program_room}
use Rattle.definition.specs.Account.{account_of, said_lines, overlap_line, said, account}
use Rattle.definition_laws.specs.Stages.{planned_changes}
use Rattle.definition_laws.specs.Plans.{plan_overlap, plan_fated, plan_parts}
use Rattle.plan_edit.specs.Left.{Overlapping, rewrite_fates}
use Rattle.edit_perform.specs.Ending.{ending}

-- what the account says of changes of which these are withdrawn and the others planned
abbrev pub lines_of : List (Option ℕ) → List Planned → List ℕ
lines_of ws ps = said_lines (account_of ws (map (λ q. q.fate) ps))

-- what is told of a plan after its run, where the edit program's buffer can hold the result
abbrev pub told_of : List (Option ℕ) → Plan → World → Answer (List ℕ)
told_of ws p w = fitting program_room (result p.changes p.climbs w) >>= λ r. gives (lines_of ws p.changes)

pub not_accepted : (h : Choices) (b : List ℕ) (k : ℕ) → accepted b ≡ refused k → (ending h b ≡ refused k) × (account h b ≡ refused k)
unfolding ending account ◌>>=◌
not_accepted h b k e = (rw e, rw e)

module _ (h : Choices) (b : List ℕ) (a : Accepted) (e : accepted b ≡ gives a) where
  -- two changes overlap
  pub overlapping : (j k : ℕ) → Overlapping h a j k → (ending h b ≡ refused 8) × (account h b ≡ gives (overlap_line j k))
  unfolding ending account said ◌>>=◌
  overlapping j k o = (rw (e, plan_overlap h a o.p o.q o.judged), rw (e, o.judged, o.first, o.second))

  -- none do
  module _ (ps : List Planned) (z : judge_changes h a ≡ fated ps) where
    rewriting : rewrite_changes a ps ≡ plan h a
    rewriting = sym (plan_fated h a ps z)

    pub not_planned : (k : ℕ) → plan h a ≡ refused k → (ending h b ≡ refused k) × (account h b ≡ refused k)
    unfolding ending account said ◌>>=◌
    not_planned k g = (rw (e, g), rw (e, z, rewriting, g))

    module _ (p : Plan) (g : plan h a ≡ gives p) where
      -- with a plan, the run and its result decide whether its fates are told
      pub planned_account : account h b ≡ (ran a p >>= λ w. told_of (withdrawing h a) p w)
      unfolding account said ◌>>=◌
      planned_account =
          rw (e, z, rewriting, g)
          (ap (λ (fs : List Fate). ran a p >>= λ w. fitting program_room (result p.changes p.climbs w) >>= λ r. gives (said_lines (account_of (withdrawing h a) fs))) (sym (rewrite_fates a ps p (rewriting ∙ g))))

-- ── How many stay ───────────────────────────────────────────────────────────────────────────────────────────

-- a plan has a change for each
pub planned_length : (h : Choices) (a : Accepted) (p : Plan) → plan h a ≡ gives p → length p.changes ≡ length (remaining h a)
unfolding changes_of
planned_length h a p e =
    let rs = remaining h a in
    let ps = planned h a.table rs in
    sym (length-map p.changes (λ q. q.fate))
    ∙ (ap length (rewrite_fates a ps p (plan_parts h a p e).1)
    ∙ (length-map ps (λ q. q.fate) ∙ (sym (length-map ps (λ q. q.change)) ∙ (ap length (planned_changes h a.table rs) ∙ length-map rs (λ r. r.change)))))
