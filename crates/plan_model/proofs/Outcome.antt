-- What planning makes of a batch, and each way out of it on rows.
-- Assumes nothing.
use Rattle.std.specs.Prelude.{List, map, ◌≡◌, length, get_or}
use Rattle.std.proofs.lemmas.Simd.{map-map}
use Rattle.std.proofs.Math.Option.{Option, none, some}
use Rattle.std.proofs.Math.Path.{refl, ap}
use Rattle.std.proofs.Common.{sym, ◌∙◌, subst, arith}
use Prim.Native.Nat.{ℕ, ◌<◌}
use Rattle.orders.specs.Lists.{All}
use Rattle.orders.specs.ListLaws.{All-map}
use Rattle.orders.specs.Tree.{node, forest}
use Rattle.definition.specs.Basics.{Answer, refused, gives, ◌>>=◌}
use Rattle.definition.specs.Choices.{Choices}
use Rattle.definition.specs.Elements.{Table, table}
use Rattle.definition.specs.Refusals.{Accepted}
use Rattle.definition.specs.Planning.{Planned, Judgement, overlaps, fated}
use Rattle.definition.specs.Withdrawing.{numbers_left}
use Rattle.definition.specs.Rewriting.{Note, mapping, rewritten}
use Rattle.definition.specs.Running.{begin}
use Rattle.definition.specs.Answers.{sorted_changes, withdrawing, remaining, judge_changes, Plan, rewrite_changes, plan, performed, at_first}
use Rattle.definition_laws.specs.Answers.{gives_inj}
use Rattle.definition_laws.specs.Stages.{judge_overlap, judge_disjoint}
use Rattle.definition_laws.specs.Plans.{plan_overlap, plan_fated}
use Rattle.read_element_table.specs.Told.{length_view}
use Rattle.read_layout.specs.declared.Layout.{Layout}
use Rattle.record_changes.specs.ChangeRow.{ChangeRow}
use Rattle.plan_overlap.specs.Overlap.{rows_overlap}
use Rattle.plan_notes.specs.Notes.{note_of, settled_at, settled_told}
use Rattle.record_rewritten.specs.Stated.{plan_of}
use Rattle.plan_rewrite.specs.Kept.{Kept}
use Rattle.plan_rewrite.specs.Rewritten.{rewrite_rows, told_rows, rewrite_told}
use Rattle.run_model.specs.Store.{held_note, store}
use Rattle.plan_model.specs.Fated.{gone, left, left_rows, fated_rows}
use Rattle.plan_model.proofs.Fated.{overlap_left, fated_planned}
use Rattle.plan_model.specs.Noted.{note_held}
use Rattle.plan_model.proofs.Noted.{notes_held}
use Rattle.plan_model.specs.Ready.{listed_in, calls_in, mappings_in, notes_in, table_in, accepted_in, Facts}
use Rattle.plan_model.specs.Outcome.{outcome, by_numbers, judging, planning, rows_outcome, rewrite_fated}

-- ── What is made ────────────────────────────────────────────────────────────────────────────────────────────

-- what is told by numbers, told by places
pub fated_by : (ws : List (Option ℕ)) (j : Judgement) (ps : List Planned) → by_numbers ws j ≡ fated ps → j ≡ fated ps
unfolding by_numbers
fated_by ws (overlaps j k) ps e = absurd (let z : ◌≡◌ {A = ℕ} 0 1 = cc in omega arith)
fated_by ws (fated qs) ps e = e

pub overlaps_by : (ws : List (Option ℕ)) (j : Judgement) (x y : ℕ) → by_numbers ws j ≡ overlaps x y → (p : ℕ) × (q : ℕ) × (j ≡ overlaps p q) × (get_or (numbers_left ws) p 0 ≡ x) × (get_or (numbers_left ws) q 0 ≡ y)
unfolding by_numbers
overlaps_by ws (overlaps p q) x y e = (p, q, refl, cc, cc)
overlaps_by ws (fated qs) x y e = absurd (let z : ◌≡◌ {A = ℕ} 0 1 = cc in omega arith)

-- ── On rows ─────────────────────────────────────────────────────────────────────────────────────────────────

-- told change by change, or row by row
rows_alike : (T : Table) (listed : List ℕ) (R : Answer (List ChangeRow × ℕ)) (N : Answer (List (ℕ × ℕ × ℕ)))
    → ◌≡◌ {A = Answer Plan} (◌>>=◌ {B = Plan} (told_rows listed R) (λ ps. ◌>>=◌ {B = Plan} (◌>>=◌ {B = List Note} N (λ ns. gives (map (note_of T) ns))) (λ notes. gives (record { changes = ps.0; climbs = ps.1; notes = notes }))))
    (◌>>=◌ {B = Plan} R (λ q. ◌>>=◌ {B = Plan} N (λ ns. gives (record { changes = map (plan_of listed) q.0; climbs = q.1; notes = map (note_of T) ns }))))
unfolding ◌>>=◌ told_rows
rows_alike T listed (refused k) N = refl
rows_alike T listed (gives q) (refused k) = refl
rows_alike T listed (gives q) (gives ns) = refl

module _ (h : Choices) {b : List ℕ} {l : Layout} {t s : List ℕ} (f : Facts b l t s) where
  abbrev T : Table
  T = table_in l t s

  abbrev listed : List ℕ
  listed = listed_in l b

  abbrev mapped : ℕ → Option ℕ
  mapped = mapping (mappings_in l b)

  abbrev a : Accepted
  a = accepted_in l b t s f.trees

  -- ── The first stage ──

  judging_is : judging h b ≡ gives (by_numbers (withdrawing h a) (judge_changes h a))
  unfolding judging ◌>>=◌
  judging_is = rw f.accepted

  -- what is withdrawn of the accepted batch
  pub gone_is : withdrawing h a ≡ gone T (calls_in l b) h
  unfolding withdrawing sorted_changes
  gone_is = refl

  pub judged_overlap : (j k : ℕ) → rows_overlap (left_rows T (calls_in l b) h) ≡ some (j, k)
      → judging h b ≡ gives (overlaps (get_or (numbers_left (gone T (calls_in l b) h)) j 0) (get_or (numbers_left (gone T (calls_in l b) h)) k 0))
  unfolding judge_changes remaining withdrawing sorted_changes by_numbers
  judged_overlap j k e = judging_is ∙ ap (λ q. gives (by_numbers (withdrawing h a) q)) (judge_overlap h T (left T (calls_in l b) h) j k (sym (overlap_left T (calls_in l b) h) ∙ e))

  pub judged_fated : rows_overlap (left_rows T (calls_in l b) h) ≡ none → judging h b ≡ gives (fated (map (plan_of listed) (fated_rows T (calls_in l b) h)))
  unfolding judge_changes remaining withdrawing sorted_changes by_numbers
  judged_fated e =
      let n : ℕ = l.sizes.elements in
      let told = fated_planned n T listed (length_view n t s) h (calls_in l b) f.recorded in
      judging_is ∙ ap (λ q. gives (by_numbers (withdrawing h a) q)) (judge_disjoint h T (left T (calls_in l b) h) (sym (overlap_left T (calls_in l b) h) ∙ e) ∙ ap fated (sym told))

  -- ── The second stage ──

  -- 8
  pub out_overlap : (j k : ℕ) → judging h b ≡ gives (overlaps j k) → planning h b ≡ refused 8
  unfolding planning ◌>>=◌
  out_overlap j k e =
      let (p, q, z, _, _) = overlaps_by (withdrawing h a) (judge_changes h a) j k (gives_inj (sym judging_is ∙ e)) in
      rw (f.accepted, plan_overlap h a p q z)

  -- whatever rows are fated, if they state changes of elements
  module _ (rows : List ChangeRow) (judged : judging h b ≡ gives (fated (map (plan_of listed) rows))) (kept : All (Kept l.sizes.elements T listed) rows) where
    rewriting_told : rewritten T mapped (map (plan_of listed) rows) ≡ told_rows listed (rewrite_rows T mapped listed rows rows)
    unfolding rewritten plan_of
    rewriting_told = rw (map-map (λ (p : Planned). p.change) (plan_of listed) rows) (rewrite_told T mapped listed l.sizes.elements rows rows (All-map (λ r k. k.stated) rows kept))

    plan_rows : plan h a ≡ rewrite_fated T listed mapped rows (notes_in l b)
    unfolding rewrite_changes rewrite_fated
    plan_rows =
        rw (plan_fated h a (map (plan_of listed) rows) (fated_by (withdrawing h a) (judge_changes h a) _ (gives_inj (sym judging_is ∙ judged))), rewriting_told, settled_told T mapped 0 (notes_in l b))
        (rows_alike T listed (rewrite_rows T mapped listed rows rows) (settled_at T mapped 0 (notes_in l b)))

    -- 9 or 10 of a dependent
    pub out_dependents : (k : ℕ) → rewrite_rows T mapped listed rows rows ≡ refused k → planning h b ≡ refused k
    unfolding planning rewrite_fated ◌>>=◌
    out_dependents k g = rw (f.accepted, plan_rows, g)

    module _ (rs : List ChangeRow) (steps : ℕ) (rewrote : rewrite_rows T mapped listed rows rows ≡ gives (rs, steps)) where
      -- 9 or 10 of a note
      pub out_notes : (k : ℕ) → settled_at T mapped 0 (notes_in l b) ≡ refused k → planning h b ≡ refused k
      unfolding planning rewrite_fated ◌>>=◌
      out_notes k g = rw (f.accepted, plan_rows, rewrote, g)

      held : (ns : List (ℕ × ℕ × ℕ)) → All (λ m. m.0 < l.sizes.elements) ns → map (held_note (node 2147483648 (forest f.trees))) (map (note_of T) ns) ≡ map note_held ns
      held ns low =
          let low' : All (λ m. m.0 < length (table 0 0 f.trees)) ns = subst (λ (n : ℕ). All (λ m. m.0 < n) ns) (sym (length_view l.sizes.elements t s) ∙ ap length f.table) low in
          ap (λ (U : Table). map (held_note (node 2147483648 (forest f.trees))) (map (note_of U) ns)) f.table ∙ notes_held f.trees 2147483648 ns low'

      -- nothing is refused
      pub out_made : (ns : List (ℕ × ℕ × ℕ)) → settled_at T mapped 0 (notes_in l b) ≡ gives ns → All (λ m. m.0 < l.sizes.elements) ns
          → planning h b ≡ gives (rows_outcome T listed rs steps (map note_held ns))
      unfolding planning rewrite_fated outcome performed at_first begin store ◌>>=◌
      out_made ns g low = rw (f.accepted, plan_rows, rewrote, g, held ns low)
