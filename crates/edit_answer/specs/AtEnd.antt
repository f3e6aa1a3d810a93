-- From what a run leaves to what each job answers.
-- Assumes nothing.
use Rattle.std.specs.Prelude.{◌≡◌, Result, Ok, Err, Bool, true, false, cond, ◌&&◌, ℕ, zero, suc, ◌+◌, ◌*◌, ◌^◌, ◌≤◌, ◌<◌, drop, get_or, eqb}
use Rattle.std.proofs.Math.Path.{refl, sym, ap}
use Rattle.std.proofs.Common.{◌∙◌, zero-add, arith, take_all}
use mathlib.Core.List.{List, [], ◌∷◌, map, flat_map}
use Rattle.std.proofs.Math.Option.{none}
use Rattle.std.proofs.Math.ListN.{length, take}
use Rattle.std.proofs.lemmas.List.{length-map}
use borrow.Author.Tests.{eqb-true, lt-ltb, le-ltb}
use Rattle.orders.specs.ListLaws.{bool_absurd}
use Rattle.orders.specs.Tree.{label, preorder}
use Rattle.definition.specs.Basics.{Answer, refused, gives, ◌>>=◌, refuse}
use Rattle.definition.specs.Choices.{Choices}
use Rattle.definition.specs.Elements.{Table, is_node, node?, tree, row, no_row}
use Rattle.definition.specs.Refusals.{Accepted, accepted}
use Rattle.definition.specs.Answers.{Plan, plan, ran}
use Rattle.definition.specs.Running.{World}
use Rattle.definition.specs.Finishing.{fitting, encoded}
use Rattle.definition.specs.Printed.{program_room}
use Rattle.definition.specs.Account.{said_lines, overlap_line}
use Rattle.definition_laws.specs.Accepted.{accepts}
use Rattle.definition_laws.specs.Answers.{gives_inj, given}
use Rattle.definition_laws.specs.Measures.{preorder_list_length}
use Rattle.definition_laws.specs.Rows.{table_length}
use Rattle.definition_laws.specs.Running.{top}
use Rattle.check_laws.specs.Claimed.{own_pairs}
use Rattle.account_lines.specs.Lines.{tell_in, said_rows, said_rows_lem}
use Rattle.read_element_table.specs.View.{view, row_at, kind_word}
use Rattle.read_element_table.specs.Wellformed.{Lines}
use Rattle.read_element_table.specs.Told.{length_view, row_view, node_told, tree_told}
use Rattle.rows_model.specs.Row.{first_rows, rows_of}
use Rattle.rows_model.specs.Place.{mark_of}
use Rattle.run_model.specs.Store as model
use Rattle.run_model.specs.Store.{store, held_changed}
use Rattle.share_laws.specs.Share.{share, share_in}
use Rattle.share_rows.specs.Summed.{share_of, share_rows}
use Rattle.kept_rows.specs.Pairs.{kept_rows, kept_rows_lem}
use Rattle.kept_rows.specs.Promises.{tell_pairs}
use Rattle.run_annotations.specs.Notes.{notes_of}
use Rattle.run_annotations.specs.Changed.{changed_in}
use Rattle.run_tree_store.specs.Stored.{stored}
use Rattle.finish_model.specs.Finished.{result_of, first_tree}
use Rattle.finish_model.specs.Alike.{find_row}
use Rattle.finish_model.proofs.Alike.{find_in_lem}
use Rattle.finish_find.specs.OldStart.{TreesTold}
use Rattle.finish_model.proofs.Result.{result_rows}
use Rattle.finish_result.specs.Weighed.{Weighs}
use Rattle.finish_result.specs.Answered.{length_of, fitted, over_front, Answered, answered_result}
use Rattle.edit_perform.specs.Ending.{End, ending, result_at, edit_ending, found_at, found_ending}
use Rattle.edit_perform.specs.AtEnd.{AtEnd, Told as ElementsTold, Marked, Overlapped, withdrawn_in, Recounted}
use Rattle.edit_perform.specs.declared.Ended.{Ended}
use Rattle.plan_edit.specs.declared.Unplanned.{Unplanned}
use Rattle.plan_edit.specs.declared.Unplanned.TheVariants.{Refused, Overlap}
use Rattle.refusals.specs.Numbers.{number, answered}
use Rattle.refusals.specs.declared.Refusal.{Refusal}
use Rattle.promises.specs.Keeping.{kept_pairs, paired}
use Rattle.promises.specs.Promises.{left_in, applied, found, recounted}
use Rattle.promises.specs.Serving.{reached, of_length, of_share, Tells, edit_outcome, edit_written}
use Rattle.promises.specs.declared.Job.{Job}
use Rattle.promises.specs.declared.Job.TheVariants.{Edit, Find, Account, Share, Kept}
use Rattle.promises.specs.declared.Told.{Told}
use Rattle.promises.specs.declared.Told.TheVariants.{Of}

-- ── The edit ────────────────────────────────────────────────────────────────────────────────────────────────

applied_fitted : (h : Choices) (b : List ℕ) (room : ℕ) (e : End) → ending h b ≡ gives e → applied h b room ≡ fitted room (result_at e)
unfolding applied fitted ◌>>=◌
applied_fitted h b room e q = rw (edit_ending h b, q) refl

left_over : (held : List ℕ) (a : Answer (List ℕ)) → over_front held a ≡ left_in held a
unfolding over_front left_in
left_over held (refused n) = refl
left_over held (gives bytes) = rw (take_all (length bytes) bytes (omega arith), zero-add (length bytes)) refl

module _ {h : Choices} {b rows notes changed held out : List ℕ} {d : Ended} (v : AtEnd h b rows notes changed d) (a : Result ℕ Refusal) where
  -- what is answered from what the run leaves is the edit's answer
  pub answered_edit : ((marks : List ℕ) → Answered held (result_of d.discarded d.climbs (stored (drop d.text b) d.rows rows marks (notes_of d.notes notes) (changed_in d.changed changed))) out a)
      → (r : Result Told Refusal) → answered r ≡ of_length (length_of a) → Tells (reached h Edit b (length held)) held r out
  unfolding result_at reached
  answered_edit f t i =
      let e = v.end in
      let g = f v.marks in
      let q : Answered held (result_of _ e.planned.climbs _) out a = rw (v.discarded, v.climbs) at g in
      let r = answered_result e.planned.changes e.planned.climbs e.world v.holds v.held q in
      let x = fitted (length held) (result_at e) in
      rw (applied_fitted h b (length held) e v.ends) (record { answer = i ∙ (ap of_length r.answer ∙ sym (edit_outcome x)); result = r.result ∙ (left_over held x ∙ ap (left_in held) (sym (edit_written x))) })

-- ── find_element ────────────────────────────────────────────────────────────────────────────────────────────

-- the run of the batch b has ended, and the rows are those of its trees
pub record RowsAtEnd (h : Choices) (b rows : List ℕ) (d : Ended) : Type 0 where
  pub end : End
  pub ends : ending h b ≡ gives end
  pub held : rows_of end.world.trees ≡ first_rows (drop d.text b) d.rows rows
  pub within : 3 * d.rows ≤ length rows
  pub some : 1 ≤ d.rows
  pub few : d.rows ≤ 4097

pub rows_at_end : {h : Choices} {b rows notes changed : List ℕ} {d : Ended} → AtEnd h b rows notes changed d → RowsAtEnd h b rows d
unfolding store stored
rows_at_end v = record { end = v.end; ends = v.ends; held = ap (λ (s : model.Store). s.rows) v.held; within = v.rows_within; some = v.some_rows; few = v.few_rows }

get_d_past : {A : Type 0} (l : List A) (k : ℕ) (d : A) → length l ≤ k → get_or l k d ≡ d
get_d_past [] k d h = refl
get_d_past (x ∷ l) zero d h = absurd (omega arith)
get_d_past (x ∷ l) (suc k) d h = get_d_past l k d (omega arith)

-- a node of tree 0
unfoldable pub old_node : Table → ℕ → Bool
old_node T k = node? T k && eqb (tree T k) 0

-- of the elements that words tell
module _ (n : ℕ) (t s : List ℕ) (k : ℕ) where
  pub none_there : n ≤ k → false ≡ old_node (view n t s) k
  unfolding old_node node? row no_row is_node
  none_there h = rw (get_d_past (view n t s) k no_row (omega (arith, length_view n t s))) refl

  module _ (h : k < n) (b : Bool) (e : b ≡ is_node (get_or s (3 * suc k) 0)) where
    pub no_node : b ≡ false → false ≡ old_node (view n t s) k
    unfolding old_node
    no_node q = rw (node_told n t s k h, sym e ∙ q) refl

    pub node_there : Lines n t → b ≡ true → (x : ℕ) → x ≡ get_or t (8 * k + 7) 0 → eqb x 0 ≡ old_node (view n t s) k
    unfolding old_node
    node_there L q x f = rw (node_told n t s k h, sym e ∙ q, tree_told n t s L k h, ← f) refl

kind_told : (n : ℕ) (t s : List ℕ) (k : ℕ) → k < n → (row (view n t s) k).kind ≡ get_or s (3 * suc k) 0
unfolding row_at kind_word
kind_told n t s k h = rw (row_view n t s k h) refl

-- it is of tree 0
pub old_tree : (T : Table) (k : ℕ) → old_node T k ≡ true → tree T k ≡ 0
unfolding old_node
old_tree T k h = go (node? T k) (eqb (tree T k) 0) refl h
  where
    go : (a b : Bool) → eqb (tree T k) 0 ≡ b → (a && b) ≡ true → tree T k ≡ 0
    go true true e h = eqb-true (tree T k) 0 e
    go true false e h = bool_absurd h refl
    go false b e h = bool_absurd h refl

-- and the words tell of the batch's own trees
pub trees_told : {b t s : List ℕ} {n : ℕ} → ElementsTold b t s n → TreesTold n t s
trees_told {b} w = record {
  trees = w.batch.trees;
  table = w.table ∙ (accepts b w.batch w.accepts).table;
  text = w.text;
  rows = w.rows;
  formed = w.formed;
}

-- where it is found, by the rows of the new tree
module _ {h : Choices} {b rows t s : List ℕ} {d : Ended} (v : RowsAtEnd h b rows d) (w : ElementsTold b t s d.elements) (k : ℕ) where
  old_table : v.end.batch.table ≡ view d.elements t s
  unfolding ending
  old_table = given (accepted b) _ v.ends λ a x e. given (plan h a) _ e λ p y e. given (ran a p) _ e λ u z e.
      ap (λ (q : End). q.batch.table) (sym (gives_inj e)) ∙ (ap (λ (q : Accepted). q.table) (gives_inj (sym x ∙ w.accepts)) ∙ sym w.table)

  found_by : found h b k ≡ gives (cond (old_node (view d.elements t s) k) (find_row (first_tree (first_rows (drop d.text b) d.rows rows)) (row (view d.elements t s) k).kind (row (view d.elements t s) k).start) none)
  unfolding found_at old_node ◌>>=◌
  found_by = found_ending h b k ∙ rw (v.ends, find_in_lem v.end.batch.table v.end.world k, old_table, v.held) refl

  pub no_old_node : old_node (view d.elements t s) k ≡ false → gives none ≡ found h b k
  no_old_node q = sym (found_by ∙ rw q refl)

  pub old_node_lem : old_node (view d.elements t s) k ≡ true → k < d.elements → (kind start : ℕ) → kind ≡ get_or s (3 * suc k) 0 → start ≡ (row (view d.elements t s) k).start
      → gives (find_row (first_tree (first_rows (drop d.text b) d.rows rows)) kind start) ≡ found h b k
  old_node_lem q low kind start e f = sym (found_by ∙ rw (q, kind_told d.elements t s k low, ← e, ← f) refl)

-- ── By the end of the run ───────────────────────────────────────────────────────────────────────────────────

-- what is given of a batch and of what its steps leave
pub given_ending : {A : Type 0} (h : Choices) (b : List ℕ) (f : Accepted → World → A) → (accepted b >>= λ a. plan h a >>= λ p. ran a p >>= λ w. gives (f a w)) ≡ (ending h b >>= λ e. gives (f e.batch e.world))
unfolding ending ◌>>=◌
given_ending {A} h b f = go (accepted b)
  where
    at : End → Answer A
    at e = gives (f e.batch e.world)

    last : (a : Accepted) (p : Plan) (o : Answer World) → (o >>= λ w. gives (f a w)) ≡ ((o >>= λ w. gives (record { batch = a; planned = p; world = w })) >>= at)
    last a p (refused k) = refl
    last a p (gives w) = refl

    mid : (a : Accepted) (o : Answer Plan) → (o >>= λ p. ran a p >>= λ w. gives (f a w)) ≡ ((o >>= λ p. ran a p >>= λ w. gives (record { batch = a; planned = p; world = w })) >>= at)
    mid a (refused k) = refl
    mid a (gives p) = last a p (ran a p)

    go : (o : Answer Accepted) → (o >>= λ a. plan h a >>= λ p. ran a p >>= λ w. gives (f a w)) ≡ ((o >>= λ a. plan h a >>= λ p. ran a p >>= λ w. gives (record { batch = a; planned = p; world = w })) >>= at)
    go (refused k) = refl
    go (gives a) = mid a (plan h a)

-- ── The share ───────────────────────────────────────────────────────────────────────────────────────────────

-- the share by the end of the run
pub share_ending : (h : Choices) (b : List ℕ) → share h b ≡ (ending h b >>= λ e. gives (share_in e.world))
unfolding share
share_ending h b = given_ending h b (λ a w. share_in w)

-- what the rows and the changed elements at the end tell is the batch's share
pub share_told : {h : Choices} {b rows notes changed : List ℕ} {d : Ended} → AtEnd h b rows notes changed d → {q m : ℕ} → (q, m) ≡ share_of (first_rows (drop d.text b) d.rows rows) (changed_in d.changed changed) → gives (Of q m) ≡ of_share (share h b)
unfolding ending of_share store stored ◌>>=◌
share_told {h} {b} {rows} {notes} {changed} {d} v {q} {m} e =
    given (accepted b) _ v.ends λ a x f.
    given (plan h a) _ f λ p y f.
    given (ran a p) _ f λ w z f.
    let same : v.end.world ≡ w = ap (λ (k : End). k.world) (sym (gives_inj f)) in
    let there : share_in w ≡ share_of (rows_of w.trees) (map (held_changed w.trees) w.changed) = share_rows h b a p w x y z in
    let held : share_of (rows_of w.trees) (map (held_changed w.trees) w.changed) ≡ share_of (first_rows (drop d.text b) d.rows rows) (changed_in d.changed changed) =
    ap (λ (s : model.Store). share_of s.rows s.changed) (ap store (sym same) ∙ v.held) in
    let is : share_in v.end.world ≡ (q, m) = ap share_in same ∙ (there ∙ (held ∙ sym e)) in
    let t : share h b ≡ gives (q, m) = share_ending h b ∙ rw (v.ends, is) refl in
    sym (ap of_share t)

-- ── The pairs ───────────────────────────────────────────────────────────────────────────────────────────────

-- the pairs by the end of the run
pub pairs_ending : (h : Choices) (b : List ℕ) → kept_pairs h b ≡ (ending h b >>= λ e. gives (own_pairs e.batch.trees e.world))
unfolding kept_pairs
pairs_ending h b = given_ending h b (λ a w. own_pairs a.trees w)

-- the words s tell the rows of the n elements of the batch b, behind the row of the node above them all
pub record OldRows (b s : List ℕ) (n : ℕ) : Type 0 where
  pub batch : Accepted
  pub accepts : accepted b ≡ gives batch
  pub text : List ℕ
  pub rows : first_rows text (n + 1) s ≡ rows_of (top batch.trees)
  pub long : 3 * (n + 1) ≤ length s
  pub few : n < 2 ^ 12

pub old_rows : {b t s : List ℕ} {n : ℕ} → ElementsTold b t s n → OldRows b s n
old_rows {b} {t} {s} {n} w =
    let k = accepts b w.batch w.accepts in
    let ts = w.batch.trees in
    record {
      batch = w.batch;
      accepts = w.accepts;
      text = w.text;
      rows = w.rows;
      long = omega (arith, w.formed.long);
      few = omega (arith, length_view n t s, ap length w.table, ap length k.table, table_length ts 0 0, preorder_list_length ts, length-map (flat_map preorder ts) label, ap length k.spells.kinds, k.long.kinds, k.limits.elements);
    }

-- the run of the batch b has ended: what is held of the old elements, where they stand now, and the rows of the trees
pub record ToKeep (h : Choices) (b source marks rows : List ℕ) (d : Ended) : Type 0 where
  pub old : OldRows b source d.elements
  pub marked : Marked h b marks d
  pub ended : RowsAtEnd h b rows d

-- what the marks tell at the end is the batch's pairs
module _ {h : Choices} {b source marks rows : List ℕ} {d : Ended} (v : ToKeep h b source marks rows d) where
  pairs_told : kept_pairs h b ≡ gives (kept_rows (first_rows v.old.text (d.elements + 1) source) (first_rows (drop d.text b) d.rows rows) marks)
  unfolding ending ◌>>=◌
  pairs_told =
      given (accepted b) _ v.ended.ends λ a x f.
      given (plan h a) _ f λ p y f.
      given (ran a p) _ f λ w z f.
      let e : End = record { batch = a; planned = p; world = w } in
      let same : v.ended.end ≡ e = sym (gives_inj f) in
      let marked : v.marked.end ≡ e = gives_inj (sym v.marked.ends ∙ v.ended.ends) ∙ same in
      let old : v.old.batch ≡ a = gives_inj (sym v.old.accepts ∙ x) in
      let before : first_rows v.old.text (d.elements + 1) source ≡ rows_of (top a.trees) = v.old.rows ∙ ap (λ (q : Accepted). rows_of (top q.trees)) old in
      let after : first_rows (drop d.text b) d.rows rows ≡ rows_of w.trees = sym v.ended.held ∙ ap (λ (q : End). rows_of q.world.trees) same in
      let marks_told : take d.elements marks ≡ map (mark_of w.trees) w.paths = v.marked.told ∙ ap (λ (q : End). map (mark_of q.world.trees) q.world.paths) marked in
      let is : kept_rows (rows_of (top a.trees)) (rows_of w.trees) marks ≡ own_pairs a.trees w = kept_rows_lem h b a p w x y z d.elements marks v.marked.long marks_told in
      pairs_ending h b ∙ rw (v.ended.ends, same, before, after, is) refl

  pub pairs_answer : (room : ℕ) → tell_pairs room (kept_rows (first_rows v.old.text (d.elements + 1) source) (first_rows (drop d.text b) d.rows rows) marks) ≡ reached h Kept b room
  unfolding reached paired ◌>>=◌
  pairs_answer room = sym (rw pairs_told refl)

-- ── Refused, or at the end of the run ───────────────────────────────────────────────────────────────────────

-- the answer `a`, unless what is performed is refused
unfoldable pub unless : {A : Type 0} → Result Ended Unplanned → Answer A → Answer A
unless (Err (Refused e)) a = refused (number e)
unless (Err (Overlap o)) a = a
unless (Ok d) a = a

-- which is the refusal
pub unless_refused : {A : Type 0} {p : Result Ended Unplanned} {e : Refusal} → p ≡ Err (Refused e) → (a : Answer A) → unless p a ≡ refused (number e)
unfolding unless
unless_refused e a = rw e refl

-- or the answer
pub unless_done : {A : Type 0} {p : Result Ended Unplanned} {d : Ended} → p ≡ Ok d → (a : Answer A) → unless p a ≡ a
unfolding unless
unless_done e a = rw e refl

-- also where two changes overlap
pub unless_overlap : {A : Type 0} {p : Result Ended Unplanned} {j k : ℕ} → p ≡ Err (Overlap (record { earlier = j; later = k })) → (a : Answer A) → unless p a ≡ a
unfolding unless
unless_overlap e a = rw e refl

-- what is told then
unfoldable pub overlap_told : Job → ℕ → ℕ → ℕ → Answer (Told × List ℕ)
overlap_told Edit j k room = refused 8
overlap_told (Find n) j k room = refused 8
overlap_told Account j k room = tell_in room (overlap_line j k)
overlap_told Share j k room = refused 8
overlap_told Kept j k room = refused 8

-- is the answer of every job
pub overlap_answers : (h : Choices) (job : Job) (b : List ℕ) (j k room : ℕ) → Overlapped h b j k → overlap_told job j k room ≡ reached h job b room
unfolding overlap_told reached applied recounted paired ◌>>=◌
overlap_answers h Edit b j k room o = sym (rw (edit_ending h b, o.refused8) refl)
overlap_answers h (Find n) b j k room o = sym (rw (found_ending h b n, o.refused8) refl)
overlap_answers h Account b j k room o = sym (rw o.text refl)
overlap_answers h Share b j k room o = sym (rw (share_ending h b, o.refused8) refl)
overlap_answers h Kept b j k room o = sym (rw (pairs_ending h b, o.refused8) refl)

-- ── The account ─────────────────────────────────────────────────────────────────────────────────────────────

module _ {h : Choices} {b changes rows notes changed : List ℕ} {d : Ended} (v : AtEnd h b rows notes changed d) (w : Recounted h b changes d) {size : ℕ}
    (q : Weighs (drop d.text b) d.rows rows (notes_of d.notes notes) (changed_in d.changed changed) size) where
  -- the size that is told is that of the edit's result
  result_weighs : size ≡ length (encoded (result_at v.end))
  unfolding result_at
  result_weighs =
      q.bytes d.discarded d.climbs v.marks
      ∙ (rw (v.discarded, v.climbs, ← v.held) refl
      ∙ ap (λ r. length (encoded r)) (result_rows v.end.planned.changes v.end.planned.climbs v.end.world v.holds))

  -- so that the account is 13
  pub account_13 : (room : ℕ) → program_room < size → reached h Account b room ≡ refused 13
  unfolding reached recounted fitting refuse ◌>>=◌
  account_13 room l = rw (w.text v.end v.ends, lt-ltb program_room (length (encoded (result_at v.end))) (omega (arith, result_weighs))) refl

  -- or what the rows and the words behind them say
  pub account_answer : (room : ℕ) → size ≤ program_room → tell_in room (said_lines (said_rows changes (withdrawn_in d.recorded changes))) ≡ reached h Account b room
  unfolding reached recounted fitting refuse ◌>>=◌
  account_answer room l =
      sym (rw (w.text v.end v.ends, le-ltb program_room (length (encoded (result_at v.end))) (omega (arith, result_weighs)), said_rows_lem changes (withdrawn_in d.recorded changes) w.rows w.stay) refl)

-- where the run has ended, every job can be answered
pub record ToAnswer (h : Choices) (b t s changes marks rows notes changed starts : List ℕ) (p : Result Ended Unplanned) : Type 0 where
  pub overlaps : (j k : ℕ) → p ≡ Err (Overlap (record { earlier = j; later = k })) → Overlapped h b j k
  pub recounts : (d : Ended) → p ≡ Ok d → Recounted h b changes d
  pub ends : (d : Ended) → p ≡ Ok d → AtEnd h b rows notes changed d
  pub tells : (d : Ended) → p ≡ Ok d → ElementsTold b t s d.elements
  pub marked : (d : Ended) → p ≡ Ok d → Marked h b marks d
  pub room : (d : Ended) → p ≡ Ok d → 4096 ≤ length starts
