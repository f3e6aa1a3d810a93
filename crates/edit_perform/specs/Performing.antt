-- The run of an accepted and planned batch, in words: what it asks for is there, and what it answers is the definition's.
-- Assumes nothing.
use Rattle.std.specs.Prelude.{◌≡◌, Result, Ok, Err, ℕ, ◌*◌, ◌≤◌, ◌<◌, take, drop}
use Rattle.std.proofs.Math.Path.{refl, sym, ap}
use Rattle.std.proofs.Common.{subst, ◌∙◌, arith, length-take-le}
use mathlib.Core.List.{List, [], map, map-map}
use Rattle.std.proofs.Math.ListN.{length}
use Rattle.std.proofs.lemmas.List.{length-map}
use Rattle.std.proofs.Math.Seq.{take_all}
use Rattle.orders.specs.Lists.{All}
use Rattle.orders.specs.ListLaws.{All-map₂}
use Rattle.definition.specs.Basics.{Answer, refused, gives, ◌>>=◌}
use Rattle.definition.specs.Choices.{Choices}
use Rattle.definition.specs.Elements.{Table}
use Rattle.definition.specs.Planning.{Fate, Planned}
use Rattle.definition.specs.Running.{World, begin, news, records}
use Rattle.orders.specs.Lists.{total}
use Rattle.definition.specs.Answers.{sorted_changes, withdrawing, remaining, Plan, at_first, performed, ran}
use Rattle.definition.specs.Refusals.{most_listed, Accepted}
use Rattle.definition.specs.Finishing.{fitting}
use Rattle.definition.specs.Printed.{program_room}
use Rattle.definition.specs.Withdrawing.{staying}
use Rattle.definition.specs.Account.{account_of, said_lines, account}
use Rattle.definition_laws.specs.Answers.{gives_inj, refused_gives}
use Rattle.definition_laws.specs.Basics.{map_All}
use Rattle.definition_laws.specs.Plans.{performed_right, performed_few, performed_ruled}
use Rattle.definition_laws.specs.Right.{Right}
use Rattle.definition_laws.specs.Staying.{staying_alike}
use Rattle.withdraw_laws.proofs.Choice.{withdrawing_length}
use Rattle.definition_laws.proofs.Limits.{performed_records, ran_changed, ran_known}
use Rattle.read_element_table.specs.View.{view}
use Rattle.plan_mapping.specs.Mapped.{words_at}
use Rattle.record_changes.specs.ChangeRow.{rows_of}
use Rattle.record_changes.specs.ChangeRowLaws.{row_at, length_rows_of}
use Rattle.plan_sort.specs.Rows.{row_fate}
use Rattle.record_rewritten.specs.Stated.{change_of, plan_of}
use Rattle.plan_rewrite.specs.Kept.{Kept}
use Rattle.read_layout.specs.declared.Layout.{Layout}
use Rattle.read_batch.specs.Leaving.{Leaves}
use Rattle.run_annotations.specs.Changed.{length_changed_in}
use Rattle.run_prepare.specs.Parts.{notes_in, notes_part}
use Rattle.run_model.specs.Store.{held_changed, Store, store, store_steps}
use Rattle.run_model.proofs.Step.{in_rows, ran_store}
use Rattle.run_tree_store.specs.Stored.{stored, stored_first}
use Rattle.plan_model.specs.Ready.{listed_in, leaves_ready, ready_facts}
use Rattle.plan_model.proofs.Fated.{rows_each}
use Rattle.plan_withdraw.specs.Rule.{told}
use Rattle.plan_edit.specs.Stages.{Withdrew}
use Rattle.plan_edit.specs.Answers.{PlanMade}
use Rattle.plan_edit.specs.Left.{TellsPlan, plan_told, fated_accepted}
use Rattle.plan_edit.specs.declared.Counts.{Counts}
use Rattle.run_tree_state.specs.Applied.{executed_in}
use Rattle.run_tree_state.specs.Store.{held_in}
use Rattle.run_tree_state.specs.declared.TreeState.{TreeState}
use Rattle.refusals.specs.Numbers.{number}
use Rattle.refusals.specs.declared.Refusal.{Refusal}
use Rattle.run_execute.specs.Standing.{Begun, first_told, Standing}
use Rattle.run_execute.specs.Opening.{rows_some, rows_few, notes_few, bytes_few}
use Rattle.run_execute.specs.Stepping.{Performs}
use Rattle.run_execute.specs.Running.{plans_in, lists_all, lists_total, Ran, marks_many}
use Rattle.edit_perform.specs.Ending.{End, ending, result_at}
use Rattle.edit_perform.specs.Beginning.{known, planned, begun}
use Rattle.edit_perform.specs.Accounting.{told_of, planned_account, planned_length}
use Rattle.edit_perform.specs.AtEnd.{AtEnd, Marked, withdrawn_in, Recounted}
use Rattle.edit_perform.specs.declared.Ended.{Ended}

module _ {h : Choices} {b : List ℕ} {l : Layout} {t₀ s₀ t s : List ℕ} (v : Leaves b l t₀ s₀ t s) {changes running first : List ℕ} {c : Counts} (P : PlanMade h b l t s changes running first (Ok c)) where
  abbrev a : Accepted
  a = v.what

  abbrev E : ℕ
  E = l.sizes.elements

  abbrev listed : List ℕ
  listed = words_at b l.list l.sizes.listed

  abbrev ks : List ℕ
  ks = take c.runs running

  abbrev settled : List ℕ
  settled = take (3 * l.sizes.notes) first

  plan_of_lem : (p : Plan) × TellsPlan h b l changes running first c a p
  plan_of_lem = plan_told a v.accepted P

  p : Plan
  p = plan_of_lem.0

  m : TellsPlan h b l changes running first c a p
  unfolding p
  m = plan_of_lem.1

  -- ── What the run asks for ──

  -- what runs, by the rows at the places
  runs_told : plans_in listed changes ks ≡ performed a p
  unfolding plans_in words_at
  runs_told = m.performed

  pub begins : 16384 ≤ length t₀ → 6147 ≤ length s₀ → 6147 ≤ length s → 768 ≤ length first → Begun E t s settled
  begins lt ls ls' lf =
      let few = v.within.limits.notes in
      let long : 3 * l.sizes.notes ≤ length first = omega arith in
      begun v h p m.plan settled (notes_part l.sizes.notes first long ∙ m.notes) lt ls ls' (omega (arith, length-take-le (3 * l.sizes.notes) first long))

  -- lines 6 and 16 would refuse none of them
  pub all_perform : All (λ k. Performs E (view E t s) listed (row_at changes k)) ks
  unfolding words_at plans_in plan_of
  all_perform =
      All-map₂
      (λ k low (r : Right (view E t s) (change_of listed (row_at changes k)) × (length (news (change_of listed (row_at changes k))) ≤ most_listed) × ((row_at changes k).rule < 4096)).
      record { kept = rows_each (Kept E (view E t s) listed) c.changes changes P.within.kept k low; right = r.0; few = r.1; ruled = r.2 })
      ks P.within.low (All-map₂ (λ k r (f : (length (news (change_of listed (row_at changes k))) ≤ most_listed) × ((row_at changes k).rule < 4096)). (r, f.0, f.1)) ks rights (All-map₂ (λ k f g. (f, g)) ks fews rules))
    where
      rules : All (λ k. (row_at changes k).rule < 4096) ks
      rules =
          map_All (λ q. q.rule < 4096) (λ k. plan_of listed (row_at changes k)) ks
          (subst (λ (ps : List Planned). All (λ q. q.rule < 4096) ps) (sym runs_told) (performed_ruled h b a p (known v) m.plan))

      fews : All (λ k. length (news (change_of listed (row_at changes k))) ≤ most_listed) ks
      fews =
          map_All (λ q. length (news q.change) ≤ most_listed) (λ k. plan_of listed (row_at changes k)) ks
          (subst (λ (ps : List Planned). All (λ q. length (news q.change) ≤ most_listed) ps) (sym runs_told) (performed_few a p (planned v h p m.plan)))

      rights : All (λ k. Right (view E t s) (change_of listed (row_at changes k))) ks
      rights =
          map_All (λ q. Right (view E t s) q.change) (λ k. plan_of listed (row_at changes k)) ks
          (subst (λ (ps : List Planned). All (λ q. Right (view E t s) q.change) ps) (sym runs_told)
          (subst (λ (T : Table). All (λ q. Right T q.change) (performed a p)) (sym v.told) (performed_right a p (planned v h p m.plan))))

  -- there is room for what they record
  pub room_recorded : lists_all (view E t s) listed changes ks ≤ 1024
  room_recorded = omega (
    arith,
    lists_total (view E t s) listed changes ks,
    ap (λ (T : Table). total (records T) (λ q. length (news q.change)) (plans_in listed changes ks)) v.told,
    ap (total (records a.table) (λ q. length (news q.change))) runs_told,
    performed_records b a p (known v) (planned v h p m.plan),
  )

  pub all_elements : All (λ e. e < E) listed
  unfolding words_at
  all_elements = (ready_facts (leaves_ready v)).elements

  -- ── What it answers ──

  module _ (lt : 16384 ≤ length t₀) (ls : 6147 ≤ length s₀) (ls' : 6147 ≤ length s) (lf : 768 ≤ length first) {rows marks notes changed : List ℕ} {x : Result TreeState Refusal}
      (R : Ran E t s settled listed changes ks rows marks notes changed x) where
    text : List ℕ
    text = drop l.text b

    -- before the first step
    first_world : stored_first text E s (notes_in settled) [] ≡ store (at_first a p)
    unfolding text at_first begins begun
    first_world = first_told (begins lt ls ls' lf) ∙ ap (λ (T : Table). store (begin a.trees T p.notes)) (sym (known v).table)

    -- the run is the definition's
    ran_told : executed_in text rows marks notes changed x ≡ in_rows (ran a p)
    ran_told =
        R.answer text
        ∙ (ap (λ (T : Table). store_steps T (stored_first text E s (notes_in settled) []) (stored_first text E s (notes_in settled) []) (plans_in listed changes ks)) v.told
        ∙ (ap (λ (f : Store). store_steps a.table f f (plans_in listed changes ks)) first_world
        ∙ (ap (store_steps a.table (store (at_first a p)) (store (at_first a p))) runs_told ∙ ran_store b a p (known v) (planned v h p m.plan))))

    ended_by : (o : Answer World) → ran a p ≡ o → ending h b ≡ (o >>= λ w. gives (record { batch = a; planned = p; world = w }))
    unfolding ending ◌>>=◌
    ended_by o e = rw (v.accepted, m.plan, e) refl

    -- and so is the account
    accounted_by : account h b ≡ (ran a p >>= λ w. told_of (withdrawing h a) p w)
    accounted_by = planned_account h b a v.accepted P.found.changes (fated_accepted h b P.found.changes a v.accepted P.found.judged) p m.plan

    -- refused at the same step
    pub run_refused : (f : Refusal) → x ≡ Err f → (ending h b ≡ refused (number f)) × (account h b ≡ refused (number f))
    unfolding executed_in ◌>>=◌
    run_refused f e = go (number f) (ran a p) refl (sym (ap (executed_in text rows marks notes changed) e) ∙ ran_told)
      where
        go : (k : ℕ) (o : Answer World) → ran a p ≡ o → refused k ≡ in_rows o → (ending h b ≡ refused k) × (account h b ≡ refused k)
        go k (refused n) i j =
            let same : n ≡ k = cc in
            (ended_by (refused n) i ∙ ap refused same, accounted_by ∙ (ap (λ (o : Answer World). o >>= λ w. told_of (withdrawing h a) p w) i ∙ ap refused same))
        go k (gives w) i j = refused_gives j

    -- or what is held at the end is the definition's
    pub run_ended : (r : TreeState) → x ≡ Ok r → 3072 ≤ length notes
        → AtEnd h b rows notes changed (record { text = l.text; elements = E; recorded = c.recorded; rows = r.rows; notes = r.notes; changed = r.changed; discarded = c.discarded; climbs = c.climbs })
    unfolding executed_in ◌>>=◌ text store stored
    run_ended r e ln = go (ran a p) refl (sym (ap (executed_in text rows marks notes changed) e) ∙ ran_told)
      where
        S : Standing E t s settled r rows marks notes changed
        S = R.standing r e

        go : (o : Answer World) → ran a p ≡ o → gives (held_in text r rows marks notes changed) ≡ in_rows o
            → AtEnd h b rows notes changed (record { text = l.text; elements = E; recorded = c.recorded; rows = r.rows; notes = r.notes; changed = r.changed; discarded = c.discarded; climbs = c.climbs })
        go (refused n) i j = refused_gives (sym j)
        go (gives w) i j =
            let K = ran_known h b a p w v.accepted m.plan i in
            let same : held_in text r rows marks notes changed ≡ store w = gives_inj j in
            record {
              end = record { batch = a; planned = p; world = w };
              ends = ended_by (gives w) i;
              holds = K.holds;
              marks = marks;
              held = sym same;
              discarded = m.discarded;
              climbs = m.climbs;
              text_within = omega (arith, v.within.text);
              rows_within = S.long;
              some_rows = omega (arith, rows_some S);
              few_rows = rows_few S;
              few_bytes = λ x. omega (arith, S.measured x, bytes_few S);
              notes_within = omega (arith, notes_few S);
              few_notes = omega (arith, notes_few S);
              changed_within = S.held;
              few_changed = omega (arith, changed_few w same i);
              few_discarded = omega (arith, P.within.fewer, P.within.few);
              few_climbs = omega (arith, P.within.climbs);
            }
          where
            changed_few : (w : World) → held_in text r rows marks notes changed ≡ store w → ran a p ≡ gives w → r.changed ≤ 1024
            changed_few w same i =
                omega (arith, length_changed_in r.changed changed S.held, ap (λ (y : Store). length y.changed) same, length-map w.changed (held_changed w.trees), ran_changed b a p w (known v) (planned v h p m.plan) i)

    -- and the marks are where the elements stand
    pub run_marked : (r : TreeState) → x ≡ Ok r → (d : Ended) → d.elements ≡ E → Marked h b marks d
    unfolding executed_in ◌>>=◌ text store stored
    run_marked r e d q = go (ran a p) refl (sym (ap (executed_in text rows marks notes changed) e) ∙ ran_told)
      where
        go : (o : Answer World) → ran a p ≡ o → gives (held_in text r rows marks notes changed) ≡ in_rows o → Marked h b marks d
        go (refused n) i j = refused_gives (sym j)
        go (gives w) i j = record {
          end = record { batch = a; planned = p; world = w };
          ends = ended_by (gives w) i;
          long = omega (arith, marks_many (R.standing r e));
          told = take_all d.elements marks (omega (arith, marks_many (R.standing r e))) ∙ ap (λ (y : Store). y.marks) (gives_inj j);
        }

    -- the fates that the rows state are those of the plan
    fates_told : map row_fate (rows_of c.changes changes) ≡ map (λ q. q.fate) p.changes
    unfolding plan_of
    fates_told = sym (ap (map (λ (q : Planned). q.fate)) (sym m.changes) ∙ map-map (λ (q : Planned). q.fate) (plan_of (listed_in l b)) (rows_of c.changes changes))

    -- as many rows as changes that stay
    rows_stay : Withdrew h b c.recorded (drop 3584 changes)
        → c.changes ≡ length (staying (map told (withdrawn_in c.recorded changes)) (withdrawn_in c.recorded changes))
    unfolding remaining
    rows_stay W =
        let ps = withdrawn_in c.recorded changes in
        let ws = W.told a v.accepted in
        let many : length ps ≡ length (sorted_changes a) = sym (length-map ps told) ∙ (ap length ws ∙ withdrawing_length h a) in
        sym (length_rows_of c.changes changes)
        ∙ (sym (length-map (rows_of c.changes changes) (plan_of (listed_in l b)))
        ∙ (ap length m.changes ∙ (planned_length h a p m.plan ∙ (sym (staying_alike (withdrawing h a) ps (sorted_changes a) many) ∙ ap (λ us. length (staying us ps)) (sym ws)))))

    -- so that the account is told by them
    pub run_recounted : Withdrew h b c.recorded (drop 3584 changes) → 3840 ≤ length changes → (r : TreeState) → x ≡ Ok r → (d : Ended) → d.recorded ≡ c.recorded → Recounted h b changes d
    unfolding executed_in result_at ◌>>=◌
    run_recounted W long r e d q = go (ran a p) refl (sym (ap (executed_in text rows marks notes changed) e) ∙ ran_told)
      where
        ws : map told (withdrawn_in d.recorded changes) ≡ withdrawing h a
        ws = ap (λ (n : ℕ). map told (withdrawn_in n changes)) q ∙ W.told a v.accepted

        go : (o : Answer World) → ran a p ≡ o → gives (held_in text r rows marks notes changed) ≡ in_rows o → Recounted h b changes d
        go (refused n) i j = refused_gives (sym j)
        go (gives w) i j = record {
          few = omega (arith, W.few);
          long = omega (arith, W.few);
          rows = c.changes;
          stay = rows_stay W ∙ ap (λ (n : ℕ). length (staying (map told (withdrawn_in n changes)) (withdrawn_in n changes))) (sym q);
          text = λ y z.
              let last : End = record { batch = a; planned = p; world = w } in
              let same : last ≡ y = gives_inj (sym (ended_by (gives w) i) ∙ z) in
              accounted_by
              ∙ (ap (λ (o : Answer World). o >>= λ w. told_of (withdrawing h a) p w) i
              ∙ (ap (λ us. fitting program_room (result_at last) >>= λ r. gives (said_lines (account_of us (map (λ f. f.fate) p.changes)))) (sym ws)
              ∙ (ap (λ (fs : List Fate). fitting program_room (result_at last) >>= λ r. gives (said_lines (account_of (map told (withdrawn_in d.recorded changes)) fs))) (sym fates_told)
              ∙ ap (λ (e : End). fitting program_room (result_at e) >>= λ r. gives (said_lines (account_of (map told (withdrawn_in d.recorded changes)) (map row_fate (rows_of c.changes changes))))) same)));
        }
