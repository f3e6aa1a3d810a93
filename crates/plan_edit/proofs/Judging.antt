-- The first stage: two changes overlap, or the sorted rows get their fates; refusal 8.
-- Assumes nothing.
use mathlib.Core.Bool.{Bool, true, false, cond}
use mathlib.Core.List.{List, [], ◌∷◌, ◌++◌, map, append_assoc, append-nil}
use mathlib.Core.Option.{Option, none, some}
use mathlib.Core.Path.{◌≡◌, refl, sym, ap, ◌∙◌, subst}
use Prim.Native.Nat.{ℕ, zero, suc, ◌+◌, ◌-◌, ◌*◌, ◌≤◌, ◌<◌}
use native.Mathlib.Omega.{arith}
use lib.Dec.{eqb}
use lib.ListN.{length, take, drop, get_or, set, replicate, length-map, length-append, length-replicate, replicate-append-replicate, drop_of_length-le}
use lib.Seq.{paste, take_all, take_at, drop_at, take-take, take-append-le, length-take-le, length-paste}
use borrow.Author.Tests.{eqb-true, eqb-false, eq-eqb, ne_eqb}
use Rattle.orders.specs.Lists.{All}
use Rattle.orders.specs.ListLaws.{none_some}
use Rattle.definition.specs.Basics.{gives}
use Rattle.definition.specs.Choices.{Choices}
use Rattle.definition.specs.Elements.{Table}
use Rattle.definition.specs.Recording.{recorded}
use Rattle.definition.specs.Planning.{Region, around, sorted, fated}
use Rattle.definition.specs.Withdrawing.{withdrawals_by}
use Rattle.definition.specs.Answers.{withdrawing}
use Rattle.definition_laws.specs.Basics.{up_from, up_long}
use Rattle.definition_laws.specs.Answers.{gives_inj}
use Rattle.definition_laws.specs.Staying.{staying_whole}
use Rattle.withdraw_laws.proofs.Choice.{none_off}
use Rattle.read_element_table.specs.Told.{length_view}
use Rattle.record_changes.specs.ChangeRow.{ChangeRow, rows_of}
use Rattle.record_changes.specs.ChangeRowLaws.{row_at, rows_words, rows_read, rows_front, row_among, length_rows_of}
use Rattle.plan_overlap.specs.Overlap.{rows_overlap, replacements}
use Rattle.plan_overlap.specs.declared.Overlap.{Overlap}
use Rattle.plan_changed_region.specs.Fates.{row_pushed, rows_fates, planned_rows}
use Rattle.plan_edge.specs.Rule.{edge_rows}
use Rattle.plan_edge.specs.Told.{edge_read}
use Rattle.plan_withdraw.specs.Rule.{told, withdrawn_at, kept, withdrawals, number_at, Withdrawn}
use Rattle.plan_withdraw.specs.Told.{number_told}
use Rattle.record_rewritten.specs.Stated.{plan_of}
use Rattle.read_layout.specs.declared.Layout.{Layout}
use Rattle.plan_rewrite.specs.Rewritten.{no_change}
use Rattle.plan_model.specs.Fated.{gone, left_rows, fated_rows}
use Rattle.plan_model.proofs.Fated.{rows_many, fated_rows_lem, rule_0, rule_1, gone_on}
use Rattle.plan_model.specs.Ready.{listed_in, calls_in, table_in, Ready, ready_facts}
use Rattle.plan_model.proofs.Outcome.{gone_is, judged_overlap, judged_fated, out_overlap}
use Rattle.std.specs.Result.{MatchResult, IsErrAnd, is_ok}
use Rattle.plan_edit.specs.Stages.{Sorted, rule_words, LeftBy, rule_rows, judged_by, judgement_of, RowsJudged, Withdrew, ChangesFated, ChangesJudged}
use Rattle.plan_edit.specs.Answers.{planned_by, PlanMade, recorded_as, Planning}
use Rattle.plan_edit.specs.declared.Fated.{Fated}
use Rattle.plan_edit.specs.declared.Counts.{Counts}
use Rattle.plan_edit.specs.declared.Unplanned.{Unplanned}
use Rattle.plan_edit.specs.declared.Unplanned.TheVariants.{Overlap as OverlapOf}
use Rattle.std.specs.Prelude.{Result, Ok, Err}

-- ── What the answer of line 8 tells ─────────────────────────────────────────────────────────────────────────

overlaps : (o : Option (ℕ × ℕ)) (q : Overlap) → replacements o ≡ Err q → o ≡ some (q.earlier, q.later)
unfolding replacements
overlaps none q e = absurd (grind arith)
overlaps (some p) q e = let z : record { earlier = p.0; later = p.1 } ≡ q = grind arith in λ k. some ((z k).earlier, (z k).later)

disjoints : (o : Option (ℕ × ℕ)) → replacements o ≡ Ok tt → o ≡ none
unfolding replacements
disjoints none e = refl
disjoints (some p) e = absurd (grind arith)

-- as many fates as rows
length_fates : (k : ℕ) (stacks : List (List Region)) (rs : List ChangeRow) → length (rows_fates k stacks rs) ≡ length rs
unfolding rows_fates
length_fates k stacks [] = refl
length_fates k stacks (r ∷ rs) =
    ap suc (length_fates (suc k) (set stacks r.tree (row_pushed k r (around r.from r.to (get_or stacks r.tree [])))) rs)

length_planned : (rs : List ChangeRow) → length (planned_rows rs) ≡ length rs
unfolding planned_rows
length_planned rs = length_fates 0 (replicate 16 []) rs

-- ── By the rule that is chosen ──────────────────────────────────────────────────────────────────────────────

module _ (h : Choices) (t : List ℕ) (c : ℕ) (w : List ℕ) where
  ruled_0 : h.edge ≡ 0 → planned_rows (rows_of c w) ≡ rule_rows h t c w
  unfolding rule_rows
  ruled_0 e = rw (eq-eqb h.edge 0 e) refl

  ruled_1 : ¬ (h.edge ≡ 0) → edge_rows t c w ≡ rule_rows h t c w
  unfolding rule_rows
  ruled_1 e = rw (ne_eqb h.edge 0 e) refl

  -- so each rule's function leaves the rows of the rule
  pub left_by_0 : {w' : List ℕ} → h.edge ≡ 0 → w' ≡ rows_words (planned_rows (rows_of c w)) ++ drop (14 * c) w → w' ≡ rows_words (rule_rows h t c w) ++ drop (14 * c) w
  left_by_0 e f = f ∙ ap (λ (rs : List ChangeRow). rows_words rs ++ drop (14 * c) w) (ruled_0 e)

  pub left_by_1 : {w' : List ℕ} → ¬ (h.edge ≡ 0) → w' ≡ rows_words (edge_rows t c w) ++ drop (14 * c) w → w' ≡ rows_words (rule_rows h t c w) ++ drop (14 * c) w
  left_by_1 e f = f ∙ ap (λ (rs : List ChangeRow). rows_words rs ++ drop (14 * c) w) (ruled_1 e)

  -- and what is written is read back
  ruled_read : (l : List ℕ) → rows_of c (rows_words (rule_rows h t c w) ++ l) ≡ rule_rows h t c w
  unfolding rule_rows
  ruled_read l = go (eqb h.edge 0)
    where
      go : (b : Bool) → rows_of c (rows_words (cond b (planned_rows (rows_of c w)) (edge_rows t c w)) ++ l) ≡ cond b (planned_rows (rows_of c w)) (edge_rows t c w)
      go true = rows_read (planned_rows (rows_of c w)) l c (length_planned (rows_of c w) ∙ length_rows_of c w)
      go false = edge_read t c w l

-- ── What stays ──────────────────────────────────────────────────────────────────────────────────────────────

-- the first n of some zeros
zeros_front : (n k : ℕ) → n ≤ k → take {A = ℕ} n (replicate k 0) ≡ replicate n 0
zeros_front n k h =
    let e : n + (k - n) ≡ k = omega arith in
    ap (λ (j : ℕ). take {A = ℕ} n (replicate j 0)) (sym e) ∙ (ap (take n) (sym (replicate-append-replicate n (k - n) 0)) ∙ take_at (replicate n 0) (replicate (k - n) 0) n (length-replicate n 0))

-- as many words as are asked for
pub zeros_long : (p : List ℕ) (n : ℕ) → p ≡ replicate 256 0 → n ≤ 256 → n ≤ length p
zeros_long p n e h = omega (arith, ap length e, length-replicate {A = ℕ} 256 0)

module _ (h : Choices) (t : List ℕ) (n : ℕ) (v : List ℕ) where
  none_told : (k : ℕ) → map told (replicate k 0) ≡ map (λ r. none) (rows_of k v)
  unfolding told
  none_told k = nones k (rows_of k v) (length_rows_of k v)
    where
      nones : (k : ℕ) (rs : List ChangeRow) → length rs ≡ k → map told (replicate k 0) ≡ map (λ r. none) rs
      nones zero [] e = refl
      nones zero (r ∷ rs) e = absurd (omega arith)
      nones (suc k) [] e = absurd (omega arith)
      nones (suc k) (r ∷ rs) e = ap {B = List (Option ℕ)} (λ l. none ∷ l) (nones k rs (omega arith))

  -- the choice off, all stay
  pub left_off : {p : List ℕ} → n ≤ 256 → p ≡ replicate 256 0 → h.stronger ≡ 0 → LeftBy h t n v v p n
  unfolding rule_words
  left_off {p} few e z =
      let front : take n p ≡ replicate n 0 = ap (take n) e ∙ zeros_front n 256 few in
      record {
        words = front ∙ rw (eq-eqb h.stronger 0 z) refl;
        long = zeros_long p n e few;
        rows = rw (front, none_told n) (sym (staying_whole (rows_of n v) (rows_of n v) refl));
        few = omega arith;
      }

  -- on, what the words of the rows and of the table tell
  pub left_on : (p : List ℕ) {q v' : List ℕ} {r : ℕ} → ¬ (h.stronger ≡ 0) → n ≤ length p → Withdrawn t (length (take n p)) v v' (take n p) q r → LeftBy h t n v v' (q ++ drop n p) r
  unfolding rule_words withdrawals
  left_on p {q} {v'} {r} z fits W' =
      let long : length (take n p) ≡ n = length-take-le n p fits in
      let W : Withdrawn t n v v' (take n p) q r = rw long at W' in
      let none : drop n (take n p) ≡ [] = drop_of_length-le (take n p) {i = n} (omega (arith, long)) in
      let whole : q ≡ withdrawals t v n = W.places ∙ rw (none, append-nil) in
      let many : length (withdrawals t v n) ≡ n = length-map (up_from 0 n) (withdrawn_at t v (kept t v n)) ∙ up_long 0 n in
      let front : take n (q ++ drop n p) ≡ withdrawals t v n = ap (λ (x : List ℕ). take n (x ++ drop n p)) whole ∙ take_at (withdrawals t v n) (drop n p) n many in
      record { words = front ∙ rw (ne_eqb h.stronger 0 z) refl; long = omega (arith, ap length whole, length-append q (drop n p), many); rows = W.rows ∙ rw front; few = W.few }

-- the words tell what the definition withdraws, and the rows of the others are left
module _ (h : Choices) {b : List ℕ} {l : Layout} {t s : List ℕ} (r : Ready b l t s) {n : ℕ} {v : List ℕ} (S : Sorted b l t s n v) where
  abbrev T : Table
  T = table_in l t s

  gone_told : map told (rule_words h t n v) ≡ gone T (calls_in l b) h
  unfolding rule_words withdrawals_by
  gone_told = go (eqb h.stronger 0) refl
    where
      go : (x : Bool) → eqb h.stronger 0 ≡ x → map told (cond x (replicate n 0) (withdrawals t v n)) ≡ gone T (calls_in l b) h
      go true e = none_told h t n v n ∙ (nones (rows_of n v) (sorted T (recorded (calls_in l b))) (ap length S.rows ∙ rows_many T (calls_in l b)) ∙ sym (none_off h T (sorted T (recorded (calls_in l b))) (eqb-true h.stronger 0 e)))
        where
          nones : {A B : Type 0} (l : List A) (m : List B) → length l ≡ length m → map {B = Option ℕ} (λ r. none) l ≡ map (λ r. none) m
          nones [] [] e = refl
          nones [] (y ∷ m) e = absurd (omega arith)
          nones (x ∷ l) [] e = absurd (omega arith)
          nones (x ∷ l) (y ∷ m) e = ap {B = List (Option ℕ)} (λ k. none ∷ k) (nones l m (omega arith))
      go false e = gone_on l.sizes.elements t s r.formed (listed_in l b) h (calls_in l b) (ready_facts r).recorded (eqb-false h.stronger 0 e) n v S.rows

  module _ {v' p : List ℕ} {c : ℕ} (L : LeftBy h t n v v' p c) where
    words_told : map told (take n p) ≡ gone T (calls_in l b) h
    words_told = ap (map told) L.words ∙ gone_told

    rows_left : rows_of c v' ≡ left_rows T (calls_in l b) h
    unfolding left_rows
    rows_left = L.rows ∙ rw (words_told, S.rows)

    withdrew : Withdrew h b n p
    withdrew = record { few = S.few; told = λ a e. words_told ∙ sym (ap (withdrawing h) (gives_inj (sym e ∙ (ready_facts r).accepted)) ∙ gone_is h (ready_facts r)) }

    -- the rows get the definition's fates
    ruled : rule_rows h t c v' ≡ fated_rows T (calls_in l b) h
    ruled = go (eqb h.edge 0) refl
      where
        m : ℕ
        m = l.sizes.elements

        go : (x : Bool) → eqb h.edge 0 ≡ x → rule_rows h t c v' ≡ fated_rows T (calls_in l b) h
        go true e =
            let z = eqb-true h.edge 0 e in
            sym (ruled_0 h t c v' z) ∙ (ap planned_rows rows_left ∙ rule_0 m T (listed_in l b) (length_view m t s) h (calls_in l b) (ready_facts r).recorded z)
        go false e =
            let z = eqb-false h.edge 0 e in
            sym (ruled_1 h t c v' z) ∙ rule_1 m t s r.formed (listed_in l b) h (calls_in l b) (ready_facts r).recorded z c v' rows_left

    -- THE FIRST STAGE
    pub changes_judged : {w : List ℕ} {q : Result Fated Overlap} → RowsJudged h t n c v' w p q → ChangesJudged h b l t s w p q
    unfolding judged_by judgement_of
    changes_judged {w} {q} J = subst (ChangesJudged h b l t s w p) (sym J.answer) (go (rows_overlap (rows_of c v')) refl)
      where
        go : (o : Option (ℕ × ℕ)) → rows_overlap (rows_of c v') ≡ o → ChangesJudged h b l t s w p (judgement_of n c p o)
        go (some (i, j)) e =
            let z = judged_overlap h (ready_facts r) i j (ap rows_overlap (sym rows_left) ∙ e) in
            record { answer = rw (number_told (take n p) i, number_told (take n p) j, words_told) (sym z); within = tt }
        go none e =
            let m : ℕ = l.sizes.elements in
            let facts = ready_facts r in
            let rows : rows_of c w ≡ fated_rows T (calls_in l b) h = ap (rows_of c) (J.fates e) ∙ (ruled_read h t c v' (drop (14 * c) v') ∙ ruled) in
            let told = ap (λ (rs : List ChangeRow). gives (fated (map (plan_of (listed_in l b)) rs))) rows ∙ sym (judged_fated h facts (ap rows_overlap (sym rows_left) ∙ e)) in
            record {
              answer = told;
              within = (record { answer = told; within = fated_rows_lem m T (listed_in l b) (length_view m t s) h (calls_in l b) facts.recorded w c rows (omega (arith, L.few, S.few)) }, withdrew);
            }

-- ── The answer on rows ──────────────────────────────────────────────────────────────────────────────────────

module _ {h : Choices} {t : List ℕ} {n c : ℕ} {v p : List ℕ} {q : Result (Unit {0}) Overlap} (e : q ≡ replacements (rows_overlap (rows_of c v))) where
  rows_overlap_lem : (d : Overlap) (x y : ℕ) → q ≡ Err d → x ≡ number_at 0 (take n p) d.earlier → y ≡ number_at 0 (take n p) d.later → RowsJudged h t n c v v p (Err (record { earlier = x; later = y }))
  unfolding judgement_of
  rows_overlap_lem d x y z f g =
      let o = overlaps (rows_overlap (rows_of c v)) d (sym e ∙ z) in
      record { answer = rw (o, f, g) refl; fates = λ k. none_some (sym k ∙ o) }

  pub rows_fated : {m : Result (Unit {0}) Overlap} → is_ok m ≡ is_ok q → m ≡ Ok tt → {v' : List ℕ} → v' ≡ rows_words (rule_rows h t c v) ++ drop (14 * c) v → RowsJudged h t n c v v' p (Ok (record { recorded = n; staying = c }))
  unfolding judgement_of
  rows_fated u z f = record { answer = rw (disjoints (rows_overlap (rows_of c v)) (sym e ∙ go q (sym u ∙ ap is_ok z))) refl; fates = λ k. f }
    where
      go : (r : Result (Unit {0}) Overlap) → is_ok r ≡ true → r ≡ Ok tt
      go (Ok x) k = refl
      go (Err d) k = cc

  -- the places told by their numbers
  pub rows_told : {m : Result (Unit {0}) Overlap} {P : Overlap → Overlap → Type 0} → MatchResult q (λ x. m ≡ Ok x) (λ d. IsErrAnd m (P d)) → ((d o : Overlap) → P d o → (o.earlier ≡ number_at 0 (take n p) d.earlier) × (o.later ≡ number_at 0 (take n p) d.later))
      → (o : Overlap) → m ≡ Err o → RowsJudged h t n c v v p (Err o)
  rows_told {m} {P} told f o z = go q refl told
    where
      go : (r : Result (Unit {0}) Overlap) → q ≡ r → MatchResult r (λ x. m ≡ Ok x) (λ d. IsErrAnd m (P d)) → RowsJudged h t n c v v p (Err o)
      go (Ok x) k a = cc
      go (Err d) k a = let (g, i) = f d o (subst (λ (r : Result (Unit {0}) Overlap). IsErrAnd r (P d)) z a) in rows_overlap_lem d o.earlier o.later k g i

-- ── The second stage ────────────────────────────────────────────────────────────────────────────────────────

-- 8: two changes overlap
pub overlap_refused : {h : Choices} {b : List ℕ} {l : Layout} {t s w p : List ℕ} → Ready b l t s → (q : Result Fated Overlap) (o : Overlap) → ChangesJudged h b l t s w p q → q ≡ Err o
    → (changes running first : List ℕ) → Planning h b l t s changes running first (Err (OverlapOf o))
unfolding planned_by judged_by
overlap_refused {h} {b} {l} {w = w} r q o J z changes running first =
    let found = sym J.answer ∙ ap (λ (p : Result Fated Overlap). gives (judged_by (listed_in l b) w p)) z in
    record { made = record { answer = sym (out_overlap h (ready_facts r) o.earlier o.later found); within = tt; found = found }; withdrew = tt }

-- none do: the second stage may go on
pub judged_fates : {h : Choices} {b : List ℕ} {l : Layout} {t s w p : List ℕ} (q : Result Fated Overlap) (f : Fated) → ChangesJudged h b l t s w p q → q ≡ Ok f → ChangesFated h b l t s w f.staying × Withdrew h b f.recorded p
judged_fates {h} {b} {l} {t} {s} {w} {p} q f J z = (subst (ChangesJudged h b l t s w p) z J).within

-- ── Those withdrawn kept behind the rows ────────────────────────────────────────────────────────────────────

-- what is refused is refused whole
pub kept_refused : {h : Choices} {b : List ℕ} {l : Layout} {t s changes running first : List ℕ} (u : Unplanned) {q : Result Counts Unplanned} → q ≡ Err u → PlanMade h b l t s changes running first q
    → Planning h b l t s changes running first (Err u)
kept_refused {h} {b} {l} {t} {s} {changes} {running} {first} u e M = record { made = subst (PlanMade h b l t s changes running first) e M; withdrew = tt }

module _ (changes p changes' : List ℕ) (long : 3840 ≤ length changes) (few : length p ≡ 256) (e : changes' ≡ paste changes 3584 p (length p)) where
  behind : changes' ≡ take 3584 changes ++ (p ++ drop 3840 changes)
  behind =
      let z : 3584 + length p ≡ 3840 = omega arith in
      e ∙ (rw (z, take_all (length p) p (omega arith)) (append_assoc (take 3584 changes) p (drop 3840 changes)))

  long_still : length changes' ≡ length changes
  long_still = ap length e ∙ length-paste changes 3584 p (length p) (omega arith) (omega arith)

  rows_stand : (c : ℕ) → c ≤ 256 → rows_of c changes' ≡ rows_of c changes
  rows_stand c h =
      let front : take (14 * c) changes' ≡ take (14 * c) changes =
      ap (take (14 * c)) behind ∙ (take-append-le (14 * c) (take 3584 changes) (p ++ drop 3840 changes) (rw (length-take-le 3584 changes (omega arith)) (omega arith)) ∙ take-take (14 * c) 3584 changes (omega arith)) in
      sym (rows_front c changes' [] (omega (arith, long_still))) ∙ (ap (λ k. rows_of c (k ++ [])) front ∙ rows_front c changes [] (omega arith))

  words_stand : (n : ℕ) → n ≤ 256 → take n (drop 3584 changes') ≡ take n p
  words_stand n h =
      ap (λ k. take n (drop 3584 k)) behind
      ∙ (ap (take n) (drop_at (take 3584 changes) (p ++ drop 3840 changes) 3584 (length-take-le 3584 changes (omega arith))) ∙ take-append-le n p (drop 3840 changes) (omega arith))

  withdrew_behind : {h : Choices} {b : List ℕ} {n : ℕ} → Withdrew h b n p → Withdrew h b n (drop 3584 changes')
  withdrew_behind {n = n} W = record { few = W.few; told = λ a z. ap (map told) (words_stand n W.few) ∙ W.told a z }

  places_stand : {A : Type 0} (f : ChangeRow → A) (c : ℕ) → c ≤ 256 → (ks : List ℕ) → All (λ k. k < c) ks → map (λ k. f (row_at changes' k)) ks ≡ map (λ k. f (row_at changes k)) ks
  places_stand f c h [] a = refl
  places_stand {A} f c h (k ∷ ks) a =
      let same : row_at changes' k ≡ row_at changes k = sym (row_among changes' c k no_change a.0) ∙ (ap (λ rs. get_or rs k no_change) (rows_stand c h) ∙ row_among changes c k no_change a.0) in
      rw same (ap {B = List A} (λ m. f (row_at changes k) ∷ m) (places_stand f c h ks a.1))

  module _ {h : Choices} {b : List ℕ} {l : Layout} {t s running first : List ℕ} {n : ℕ} (W : Withdrew h b n p) where
    -- THE PLAN, whole
    pub plan_kept : (c : Counts) {q : Result Counts Unplanned} → q ≡ Ok c → PlanMade h b l t s changes running first q → Planning h b l t s changes' running first (Ok (recorded_as n c))
    unfolding planned_by
    plan_kept c z made =
        let M = subst (PlanMade h b l t s changes running first) z made in
        let w = M.within in
        record {
          made = record {
            answer = rw (rows_stand c.changes w.few, places_stand (plan_of (listed_in l b)) c.changes w.few (take c.runs running) w.low) M.answer;
            within = record { few = w.few; most = w.most; fewer = w.fewer; climbs = w.climbs; kept = rw (rows_stand c.changes w.few) w.kept; low = w.low };
            found = M.found;
          };
          withdrew = (omega (arith, long_still), withdrew_behind W);
        }
