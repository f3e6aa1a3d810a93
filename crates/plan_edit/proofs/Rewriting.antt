-- Rewriting: what the callees ask, and a dependent is refused or the rows are rewritten.
-- Assumes nothing.
use mathlib.Core.List.{List, map}
use mathlib.Core.Path.{◌≡◌, sym, ap, ◌∙◌}
use Prim.Native.Nat.{ℕ, ◌≤◌}
use native.Mathlib.Omega.{arith}
use lib.ListN.{length}
use Rattle.definition.specs.Choices.{Choices}
use Rattle.definition.specs.Elements.{Table}
use Rattle.definition.specs.Basics.{gives}
use Rattle.definition.specs.Planning.{fated}
use Rattle.definition.specs.Rewriting.{mapping}
use Rattle.record_changes.specs.ChangeRow.{rows_of}
use Rattle.plan_mapping.specs.Mapped.{mapped_by, Mapped, mapping_words, Bounded, mapped_words, mapped_elements, bounded_more}
use Rattle.record_rewritten.specs.Stated.{plan_of, Rewritable}
use Rattle.plan_rewrite.specs.Answers.{rewritten_by, steps_of, RowsRewritten}
use Rattle.std.specs.Prelude.{Result, Ok, Err}
use Rattle.refusals.specs.declared.Refusal.{Refusal}
use Rattle.refusals.specs.Numbers.{number}
use Rattle.read_layout.specs.declared.Layout.{Layout}
use Rattle.plan_model.specs.Fated.{RowsFated}
use Rattle.plan_model.proofs.Fated.{rewritable}
use Rattle.plan_model.specs.Ready.{listed_in, mappings_in, table_in, Ready, Facts, ready_facts}
use Rattle.plan_model.specs.Outcome.{judging}
use Rattle.plan_model.proofs.Outcome.{out_dependents}
use Rattle.plan_edit.specs.Stages.{ChangesFated, Rewriting, Rewrote}
use Rattle.plan_edit.specs.Answers.{planned_by, PlanMade}
use Rattle.plan_edit.specs.declared.Unplanned.TheVariants.{Refused}

module _ {b : List ℕ} {l : Layout} {t s : List ℕ} (r : Ready b l t s) where
  abbrev n : ℕ
  n = l.sizes.elements

  abbrev T : Table
  T = table_in l t s

  abbrev facts : Facts b l t s
  facts = ready_facts r

  pub mappings_bounded : (k : ℕ) → 2048 ≤ k → Bounded k 2048 (mappings_in l b)
  mappings_bounded k h = bounded_more k n 2048 (mappings_in l b) r.within.limits.elements (facts.mappings k (omega (arith, r.within.limits.elements)))

  module _ {k : ℕ} {m : List ℕ} (e : m ≡ mapping_words k (mappings_in l b)) (h : 2048 ≤ k) where
    low : n ≤ k
    low = omega (arith, r.within.limits.elements)

    pub map_mapped : Mapped n m
    map_mapped = rw e (mapped_elements k n (mappings_in l b) low (facts.mappings k low))

    map_told : mapped_by m ≡ mapping (mappings_in l b)
    map_told = rw e (mapped_words k n (mappings_in l b) (facts.mappings k low))

    pub rows_rewriting : {c : ℕ} {w out : List ℕ} {q : Result ℕ Refusal} → RowsFated n T (listed_in l b) c w → RowsRewritten n t s m (listed_in l b) w c out q → Rewriting b l t s m (rows_of c w) c out q
    rows_rewriting F R = record { mapped = map_mapped; mappings = map_told; rows = R.rows ∙ rw map_told; climbs = omega (arith, R.few, F.few) }

  pub rows_rewritable : {c : ℕ} {w : List ℕ} → RowsFated n T (listed_in l b) c w → 3584 ≤ length w → Rewritable n (listed_in l b) w c
  rows_rewritable {c} {w} F long = rewritable n T (listed_in l b) c w F (omega (arith, F.few)) facts.elements

module _ {h : Choices} {b : List ℕ} {l : Layout} {t s : List ℕ} {c : ℕ} {w : List ℕ} (F : ChangesFated h b l t s w c) {m out : List ℕ} {q : Result ℕ Refusal} (R : Rewriting b l t s m (rows_of c w) c out q) where
  were : judging h b ≡ gives (fated (map (plan_of (listed_in l b)) (rows_of c w)))
  were = sym F.answer

  -- 9 or 10 of a dependent
  pub dependents_refused : Ready b l t s → (k : Refusal) → q ≡ Err k → (changes running first : List ℕ) → PlanMade h b l t s changes running first (Err (Refused k))
  unfolding planned_by rewritten_by
  dependents_refused r k z changes running first =
      record {
        answer = sym (out_dependents h (ready_facts r) (rows_of c w) were F.within.kept (number k) (sym R.rows ∙ ap (λ (p : Result ℕ Refusal). rewritten_by p (rows_of c out)) z));
        within = tt;
        found = record { changes = _; judged = were };
      }

  pub dependents_rewritten : (k : ℕ) → q ≡ Ok k → Rewrote h b l t s m c k out
  unfolding rewritten_by steps_of
  dependents_rewritten k z =
      record {
        few = F.within.few;
        before = rows_of c w;
        judged = were;
        kept = F.within.kept;
        mapped = R.mapped;
        mappings = R.mappings;
        rewrote = sym R.rows ∙ ap (λ (p : Result ℕ Refusal). rewritten_by p (rows_of c out)) z;
        climbs = rw z at R.climbs;
      }
