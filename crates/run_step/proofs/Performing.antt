-- One performed change: what its row tells is what the definition's step goes by.
-- Assumes nothing.
use Rattle.std.specs.Prelude as prelude
use Rattle.std.specs.Prelude.{None, Some, Result, Err}
use mathlib.Core.Path.{◌≡◌, refl, sym, ap, ◌∙◌, subst}
use mathlib.Core.Bool.{Bool, true, false, cond, ◌&&◌}
use mathlib.Core.List.{List, [], map}
use mathlib.Core.Option.{Option, none, some}
use Prim.Native.Nat.{ℕ, zero, suc, ◌+◌, ◌-◌, ◌*◌, ◌/◌, ◌^◌, ◌≤◌, ◌<◌}
use native.Mathlib.Omega.{arith}
use lib.ListN.{length, get_or, take, drop}
use lib.Dec.{eqb}
use borrow.Author.Tests.{ne_eqb}
use Rattle.orders.specs.Lists.{All, meant}
use Rattle.definition.specs.Refusals.{most_listed}
use Rattle.definition.specs.Basics.{refused, or_refuse, ◌>>=◌}
use Rattle.definition.specs.Elements.{Table, depth}
use Rattle.definition.specs.Planning.{own, dependent, discarded, Planned, target}
use Rattle.definition.specs.Recording.{Change}
use Rattle.definition.specs.Running.{news, owned, records, recorded_by}
use Rattle.definition_laws.specs.Right.{right_sits}
use Rattle.words.specs.Bytes.{length_words}
use Rattle.refusals.specs.Numbers.{number}
use Rattle.refusals.specs.declared.Refusal.{Refusal}
use Rattle.refusals.specs.declared.Refusal.TheVariants.{Gone}
use Rattle.run_model.specs.Store as model
use Rattle.run_model.specs.Store.{Store, part_of, gap, depth_above, spliced_store, store_step}
use Rattle.read_element_table.specs.View.{view}
use Rattle.read_element_table.specs.Wellformed.{Lines}
use Rattle.read_element_table.specs.Told.{depth_told}
use Rattle.record_changes.specs.ChangeRow.{ChangeRow, operation, end_of, change_row, row_of}
use Rattle.record_changes.specs.ChangeRowLaws.{row_at}
use Rattle.plan_sort.specs.Rows.{row_fate, with_fate}
use Rattle.record_rewritten.specs.Stated.{change_by, new_of, change_of, plan_of}
use Rattle.record_rewritten.specs.Exact.{exact_tells}
use Rattle.plan_rewrite.specs.Kept.{Kept}
use Rattle.run_annotations.specs.Notes.{notes_of}
use Rattle.run_annotations.specs.Changed.{changed_in, Ruled, count_by}
use Rattle.run_tree_store.specs.Stored.{stored_first}
use Rattle.run_tree_store.specs.Gaps.{gap_by, gap_by_lem, held, site_of}
use Rattle.run_tree_store.specs.Promises.{SiteAt}
use Rattle.run_tree_store.specs.declared.Gap.{Gap}
use Rattle.run_tree_state.specs.Store.{held_in, gap_told, Open}
use Rattle.run_tree_state.specs.Applied.{executed_in, judged_store}
use Rattle.run_tree_state.specs.declared.TreeState.{TreeState}
use Rattle.run_change.specs.Told.{AboveBy, records_by}
use Rattle.run_prepare.specs.Listed.{part_from, part_long, part_many, part_listed, news_listed}
use Rattle.run_prepare.specs.Parts.{notes_in, words_in}
use Rattle.run_step.specs.Standing.{Standing}
use Rattle.run_step.specs.Opening.{rows_some, rows_few, marks_below, gap_room}
use Rattle.run_step.specs.Stepping.{Grown, yields_in, SteppedAt, Performs, lists_in, Stepped}

-- ── The row ─────────────────────────────────────────────────────────────────────────────────────────────────

module _ {n : ℕ} {T : Table} {listed : List ℕ} {r : ChangeRow} (k : Kept n T listed r) where
  -- by the row's numbers the change goes where it goes
  gap_row : (s : Store) → gap_by T s r.operation r.target r.end ≡ gap T s (change_of listed r)
  unfolding with_fate change_row
  gap_row s =
      let e = k.exact.same in
      let c : Change = change_of listed r in
      let a : r.operation ≡ operation c = ap (λ (q : ChangeRow). q.operation) e in
      let b : r.target ≡ target c = ap (λ (q : ChangeRow). q.target) e in
      let d : r.end ≡ end_of c = ap (λ (q : ChangeRow). q.end) e in
      ap (λ (o : ℕ). gap_by T s o r.target r.end) a ∙ (ap (λ (x : ℕ). gap_by T s (operation c) x r.end) b ∙ (ap (gap_by T s (operation c) (target c)) d ∙ gap_by_lem T s c))

  -- and is recorded as it is
  flag_row : (eqb r.fate 0 && eqb r.tree 0) ≡ records T (plan_of listed r)
  unfolding records plan_of row_fate owned
  flag_row = go (eqb r.fate 0) ∙ ap (λ (t : ℕ). owned none (row_fate r) && eqb t 0) (exact_tells k.exact).tree_told
    where
      inner : (b : Bool) → owned none (cond b (dependent r.owner) (discarded r.owner)) ≡ false
      inner true = refl
      inner false = refl

      go : (b : Bool) → (b && eqb r.tree 0) ≡ (owned none (cond b own (cond (eqb r.fate 1) (dependent r.owner) (discarded r.owner))) && eqb r.tree 0)
      go true = refl
      go false = rw (inner (eqb r.fate 1))

  rule_row : meant (records_by r) ≡ recorded_by T (plan_of listed r)
  unfolding records_by recorded_by plan_of
  rule_row = go (eqb r.fate 0 && eqb r.tree 0) ∙ ap (λ (b : Bool). cond b (some r.rule) none) flag_row
    where
      go : (b : Bool) → meant (cond b (Some r.rule) None) ≡ cond b (some r.rule) none
      go true = refl
      go false = refl

  count_row : (n : ℕ) → count_by (records_by r) n ≡ cond (records T (plan_of listed r)) n 0
  unfolding records_by
  count_row n = go (eqb r.fate 0 && eqb r.tree 0) ∙ ap (λ (b : Bool). cond b n 0) flag_row
    where
      go : (b : Bool) → count_by (cond b (Some r.rule) None) n ≡ cond b n 0
      go true = refl
      go false = refl

  ruled_row : r.rule < 4096 → Ruled (records_by r)
  unfolding records_by
  ruled_row h = go (eqb r.fate 0 && eqb r.tree 0)
    where
      go : (b : Bool) → Ruled (cond b (Some r.rule) None)
      go true = h
      go false = tt

above_by : (T : Table) (s : Store) (op x y z : ℕ) (new : List ℕ) → depth_above T s (change_by op x y z new) ≡ cond (eqb op 0) (depth T x) (depth T x - 1)
unfolding change_by depth_above
above_by T s zero x y z new = refl
above_by T s (suc zero) x y z new = refl
above_by T s (suc (suc zero)) x y z new = refl
above_by T s (suc (suc (suc zero))) x y z new = refl
above_by T s (suc (suc (suc (suc zero)))) x y z new = refl
above_by T s (suc (suc (suc (suc (suc op))))) x y z new = rw (ne_eqb (suc (suc (suc (suc (suc op))))) 0 (λ q. omega arith))

above_row : (n : ℕ) (lines source listed : List ℕ) (r : ChangeRow) (s : Store) (d : ℕ) → Lines n lines → r.target < n → AboveBy lines r.operation r.target d → d ≡ depth_above (view n lines source) s (change_of listed r)
unfolding change_of
above_row n lines source listed r s d l t a =
    a.depth
    ∙ (ap (λ (x : ℕ). cond (eqb r.operation 0) x (x - 1)) (sym (depth_told n lines source l r.target t)) ∙ sym (above_by (view n lines source) s r.operation r.target r.end (get_or listed r.list 0) (new_of listed r)))

-- the bytes of what the row lists
module _ (listed changes : List ℕ) (k : ℕ) {list count : ℕ} (e : (list ≡ get_or (drop (14 * k) changes) 3 0) × (list < 2 ^ 32)) (f : (count ≡ get_or (drop (14 * k) changes) 4 0) × (count < 2 ^ 32)) where
  pub listed_end : 4 * (row_at changes k).list + 4 * (row_at changes k).count ≤ length listed → 4 * list + 4 * count ≤ length listed
  unfolding row_at row_of
  listed_end h = omega (arith, e.0, f.0)

  pub listed_part : take (4 * list + 4 * count - 4 * list) (drop (4 * list) listed) ≡ part_from listed (row_at changes k).list (row_at changes k).count
  unfolding row_at row_of
  listed_part = rw (← e.0, ← f.0)

-- ── Where it goes ───────────────────────────────────────────────────────────────────────────────────────────

site_at : (o : Option model.Gap) (g : Gap) → Some g ≡ site_of o → o ≡ some (gap_told g)
unfolding site_of held gap_told
site_at none g e = let z : ◌≡◌ {A = ℕ} 0 1 = cc in absurd (omega arith)
site_at (some x) g e = let z : g ≡ held x = cc in ap {B = Option model.Gap} (λ y. some (gap_told y)) (sym z)

site_gone : (o : Option model.Gap) → None ≡ site_of o → o ≡ none
unfolding site_of
site_gone none e = refl
site_gone (some x) e = let z : ◌≡◌ {A = ℕ} 0 1 = cc in absurd (omega arith)

held_told : (g : Gap) → held (gap_told g) ≡ g
unfolding held gap_told
held_told g = refl

-- ── The definition's step, part by part ─────────────────────────────────────────────────────────────────────

step_gone : (T : Table) (first s : Store) (p : Planned) → gap T s p.change ≡ none → store_step T first s p ≡ refused 11
unfolding store_step or_refuse ◌>>=◌
step_gone T first s p e = rw e

step_found : (T : Table) (first s : Store) (p : Planned) (g : model.Gap) (above : ℕ) (recorded : prelude.Option ℕ) (l : List ℕ) → gap T s p.change ≡ some g → above ≡ depth_above T s p.change → meant recorded ≡ recorded_by T p → news p.change ≡ l
    → store_step T first s p ≡ judged_store above (map (part_of first s) l) (spliced_store g (map (part_of first s) l) (meant recorded) s)
unfolding store_step or_refuse judged_store ◌>>=◌
step_found T first s p g above recorded l e a r n = rw (e, a, r, n)

-- ── The step ────────────────────────────────────────────────────────────────────────────────────────────────

module _ {lines source first : List ℕ} {s : TreeState} {rows marks notes changed : List ℕ} (v : Standing (length marks) lines source first s rows marks notes changed)
    (listed changes : List ℕ) (k : ℕ)
    (few : length listed ≤ 4096)
    (x : All (λ e. e < length marks) (words_in listed) × (k < 2 ^ 32))
    (u : Performs (length marks) (view (length marks) lines source) (words_in listed) (row_at changes k)) where
  abbrev T : Table
  T = view (length marks) lines source

  abbrev L : List ℕ
  L = words_in listed

  abbrev R : ChangeRow
  R = row_at changes k

  long_listed : length L ≡ length listed / 4
  long_listed = length_words (length listed / 4) listed

  pub asks_gap : (3 * s.rows ≤ length rows) × (s.rows < 2 ^ 16) × (0 < s.rows) × All (λ m. m < s.rows) marks × Lines (length marks) lines
  asks_gap = (v.long, omega (arith, rows_few v), rows_some v, marks_below v, v.begun.formed)

  pub asks_ends : (k < 2 ^ 32) × (R.target < length marks) × (R.end < length marks)
  asks_ends = (x.1, u.kept.stated.target, u.kept.stated.end)

  pub list_within : 4 * R.list + 4 * R.count ≤ length listed
  list_within = omega (arith, u.kept.stated.within, long_listed)

  module _ {site : prelude.Option Gap} (w : SiteAt rows s.rows lines marks R.operation R.target R.end site) where
    gap_site : (text : List ℕ) → site ≡ site_of (gap T (held_in text s rows marks notes changed) (change_of L R))
    gap_site text = w.site text source (notes_of s.notes notes) (changed_in s.changed changed) ∙ ap site_of (gap_row u.kept (held_in text s rows marks notes changed))

    pub performed_gone : site ≡ None → Stepped lines source first L R s rows marks notes changed rows marks notes changed (Err Gone)
    unfolding executed_in number plan_of
    performed_gone e = record {
      answer = λ text. sym (step_gone T (stored_first text (length marks) source (notes_in first) []) (held_in text s rows marks notes changed) (plan_of L R) (site_gone _ (sym e ∙ gap_site text)));
      grown = λ t q. let z : ◌≡◌ {A = ℕ} 0 1 = cc in absurd (omega arith);
    }

    module _ {g : Gap} {above : ℕ} {recorded : prelude.Option ℕ}
        (e : site ≡ Some g)
        (ea : AboveBy lines R.operation R.target above)
        (er : recorded ≡ records_by R)
        {list : List ℕ}
        (el : list ≡ part_from listed R.list R.count) where
      gap_here : (text : List ℕ) → gap T (held_in text s rows marks notes changed) (change_of L R) ≡ some (gap_told g)
      gap_here text = site_at _ g (sym e ∙ gap_site text)

      many : R.count ≡ length (news (change_of L R))
      many = u.kept.stated.counted

      recorded_is : meant recorded ≡ recorded_by T (plan_of L R)
      recorded_is = ap meant er ∙ rule_row u.kept

      counted_is : (n : ℕ) → count_by recorded n ≡ cond (records T (plan_of L R)) n 0
      counted_is n = ap (λ (i : prelude.Option ℕ). count_by i n) er ∙ count_row u.kept n

      news_are : news (change_of L R) ≡ words_in list
      news_are = news_listed listed R.list R.count list_within (length marks) R u.kept.stated refl refl ∙ ap words_in (sym el)

      pub listed_low : (length list ≤ 4 * most_listed) × All (λ e. e < length marks) (words_in list)
      listed_low = rw el (omega (arith, part_long listed R.list R.count list_within, many, u.few), part_listed listed R.list R.count list_within (λ e. e < length marks) x.0)

      pub opens : 3072 ≤ length notes → s.changed + lists_in T L R ≤ length changed → Open s rows marks notes changed g recorded (length list / 4)
      unfolding lists_in plan_of
      opens long room =
          subst (Open s rows marks notes changed g recorded) (sym (ap (λ (l : List ℕ). length l / 4) el ∙ part_many listed R.list R.count list_within))
          (subst (λ (h : Gap). Open s rows marks notes changed h recorded R.count) (held_told g)
          (gap_room v (change_of L R) (right_sits T (change_of L R) u.right) (gap_told g) (gap_here v.begun.text) recorded R.count (omega (arith, list_within, few)) long
          (subst (λ (n : ℕ). s.changed + n ≤ length changed) (sym (counted_is R.count ∙ ap (λ (n : ℕ). cond (records T (plan_of L R)) n 0) many)) room)
          (rw er (ruled_row u.kept u.ruled))))

      pub performed : {rows' marks' notes' changed' : List ℕ} {r : Result TreeState Refusal} → SteppedAt s rows marks notes changed source first g above recorded (words_in list) rows' marks' notes' changed' r
          → Stepped lines source first L R s rows marks notes changed rows' marks' notes' changed' r
      unfolding yields_in plan_of lists_in
      performed {rows'} {marks'} {notes'} {changed'} {r} y = record {
        answer = λ text.
            y.answer text
            ∙ sym
            (step_found T (stored_first text (length marks) source (notes_in first) []) (held_in text s rows marks notes changed) (plan_of L R) (gap_told g) above recorded (words_in list)
            (gap_here text)
            (above_row (length marks) lines source L R (held_in text s rows marks notes changed) above v.begun.formed u.kept.stated.target ea)
            recorded_is
            news_are);
        grown = λ t q. subst (λ (m : ℕ). Grown s m rows' marks' t) (counted_is (length (words_in list)) ∙ ap (λ (l : List ℕ). cond (records T (plan_of L R)) (length l) 0) (sym news_are)) (y.grown t q);
      }
