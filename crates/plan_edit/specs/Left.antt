-- What the promise of planning says of the definition's plan.
-- Assumes nothing.
use Rattle.std.specs.Prelude.{List, map, ◌≡◌, ℕ, length, take, get_or, Ok, Err}
use Rattle.std.proofs.Common.{sym, ap, ◌∙◌}
use Rattle.definition.specs.Basics.{Answer, refused, gives, ◌>>=◌, keep}
use Rattle.definition.specs.Choices.{Choices}
use Rattle.definition.specs.Planning as rules
use Rattle.definition.specs.Planning.{is_discarded, Judgement, overlaps, fated}
use Rattle.definition.specs.Rewriting.{mapping, rewritten, settled}
use Rattle.definition.specs.Refusals.{Accepted, accepted}
use Rattle.definition.specs.Withdrawing.{numbers_left}
use Rattle.definition.specs.Answers.{Plan, withdrawing, judge_changes, rewrite_changes, plan, performed, at_first}
use Rattle.definition_laws.specs.Answers.{gives_inj, refused_gives, both_given, given}
use Rattle.definition_laws.specs.Stages.{rewritten_all}
use Rattle.record_changes.specs.ChangeRow.{rows_of}
use Rattle.record_changes.specs.ChangeRowLaws.{row_at}
use Rattle.record_rewritten.specs.Stated.{plan_of}
use Rattle.run_annotations.specs.Notes.{notes_of}
use Rattle.run_model.specs.Store.{store}
use Rattle.read_layout.specs.declared.Layout.{Layout}
use Rattle.plan_model.specs.Ready.{listed_in}
use Rattle.plan_model.specs.Outcome.{Outcome, outcome, by_numbers, judging, planning}
use Rattle.plan_model.proofs.Outcome.{fated_by, overlaps_by}
use Rattle.plan_edit.specs.Answers.{planned_by, outcome_in, PlanMade}
use Rattle.plan_edit.specs.declared.Counts.{Counts}
use Rattle.plan_edit.specs.declared.Unplanned.TheVariants.{Refused}
use Rattle.refusals.specs.declared.Refusal.{Refusal}
use Rattle.refusals.specs.Numbers.{number}

-- the words rows, places and notes tell the plan p of the accepted batch a
pub record TellsPlan (h : Choices) (b : List ℕ) (l : Layout) (rows places words : List ℕ) (c : Counts) (a : Accepted) (p : Plan) : Type 0 where
  pub plan : plan h a ≡ gives p
  pub changes : map (plan_of (listed_in l b)) (rows_of c.changes rows) ≡ p.changes
  pub performed : map (λ k. plan_of (listed_in l b) (row_at rows k)) (take c.runs places) ≡ performed a p
  pub notes : notes_of l.sizes.notes words ≡ (store (at_first a p)).notes
  pub discarded : c.discarded ≡ length (keep (λ q. is_discarded q.fate) p.changes)
  pub climbs : c.climbs ≡ p.climbs

planning_accepted : (h : Choices) (b : List ℕ) (a : Accepted) → accepted b ≡ gives a → planning h b ≡ (plan h a >>= λ p. gives (outcome a p))
unfolding planning ◌>>=◌
planning_accepted h b a e = rw e

-- what is refused, the definition refuses
pub plan_refused : {h : Choices} {b : List ℕ} {l : Layout} {t s changes running first : List ℕ} {r : Refusal} (a : Accepted) → accepted b ≡ gives a → PlanMade h b l t s changes running first (Err (Refused r)) → plan h a ≡ refused (number r)
unfolding planned_by ◌>>=◌
plan_refused {h} {b} {r = r} a e m = go (plan h a) (m.answer ∙ planning_accepted h b a e)
  where
    go : (o : Answer Plan) → refused (number r) ≡ (o >>= λ p. gives (outcome a p)) → o ≡ refused (number r)
    go (refused n) z = let y : number r ≡ n = cc in ap refused (sym y)
    go (gives p) z = refused_gives z

-- what is made is the definition's plan
pub plan_told : {h : Choices} {b : List ℕ} {l : Layout} {t s changes running first : List ℕ} {c : Counts} (a : Accepted) → accepted b ≡ gives a → PlanMade h b l t s changes running first (Ok c) → (p : Plan) × TellsPlan h b l changes running first c a p
unfolding planned_by outcome
plan_told {h} {b} {l} {t} {s} {changes} {running} {first} {c} a e m =
    let (p, g, z) = both_given (plan h a) (λ p. gives (outcome a p)) (sym (m.answer ∙ planning_accepted h b a e)) in
    let o : outcome_in l b changes running first c ≡ outcome a p = sym (gives_inj z) in (
      p,
      record {
        plan = g;
        changes = ap (λ (x : Outcome). x.changes) o;
        performed = ap (λ (x : Outcome). x.running) o;
        notes = ap (λ (x : Outcome). x.notes) o;
        discarded = ap (λ (x : Outcome). x.discarded) o;
        climbs = ap (λ (x : Outcome). x.climbs) o;
      },
    )

-- ── What the first stage found ──────────────────────────────────────────────────────────────────────────────

-- of an accepted batch
judged_accepted : (h : Choices) (b : List ℕ) {j : Judgement} (a : Accepted) → accepted b ≡ gives a → judging h b ≡ gives j → by_numbers (withdrawing h a) (judge_changes h a) ≡ j
unfolding judging ◌>>=◌
judged_accepted h b {j} a e z = gives_inj (let y : judging h b ≡ gives (by_numbers (withdrawing h a) (judge_changes h a)) = rw e in sym y ∙ z)

pub fated_accepted : (h : Choices) (b : List ℕ) (ps : List rules.Planned) (a : Accepted) → accepted b ≡ gives a → judging h b ≡ gives (fated ps) → judge_changes h a ≡ fated ps
fated_accepted h b ps a e z = fated_by (withdrawing h a) (judge_changes h a) ps (judged_accepted h b a e z)

-- two that overlap, at the places p and q of those that stay, have the numbers j and k
pub record Overlapping (h : Choices) (a : Accepted) (j k : ℕ) : Type 0 where
  pub p : ℕ
  pub q : ℕ
  pub judged : judge_changes h a ≡ overlaps p q
  pub first : get_or (numbers_left (withdrawing h a)) p 0 ≡ j
  pub second : get_or (numbers_left (withdrawing h a)) q 0 ≡ k

pub overlap_accepted : (h : Choices) (b : List ℕ) (j k : ℕ) (a : Accepted) → accepted b ≡ gives a → judging h b ≡ gives (overlaps j k) → Overlapping h a j k
overlap_accepted h b j k a e z =
    let (p, q, x, f, g) = overlaps_by (withdrawing h a) (judge_changes h a) j k (judged_accepted h b a e z) in
    record { p = p; q = q; judged = x; first = f; second = g }

-- rewriting keeps the fates
pub rewrite_fates : (a : Accepted) (ps : List rules.Planned) (p : Plan) → rewrite_changes a ps ≡ gives p → map (λ q. q.fate) p.changes ≡ map (λ q. q.fate) ps
unfolding rewrite_changes
rewrite_fates a ps p e =
    given (rewritten a.table (mapping a.mappings) ps) _ e λ r x e.
    given (settled a.table (mapping a.mappings) 0 a.notes) _ e λ ns y e.
    rw (← gives_inj e) (rewritten_all a.table (mapping a.mappings) ps r x).fates
