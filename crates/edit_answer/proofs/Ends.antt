-- The ways out of the functions on what a run leaves.
-- Assumes nothing.
use Rattle.std.specs.Prelude.{Result, Ok, Err, Some, None}
use Rattle.std.specs.Prelude as prelude
use mathlib.Core.Path.{◌≡◌, refl, sym, ap, subst, ◌∙◌}
use mathlib.Core.Bool.{Bool, true, false}
use mathlib.Core.Logic.{◌⊎◌, inl, inr}
use mathlib.Core.List.{List}
use mathlib.Core.Option.{Option, none, some}
use Prim.Native.Nat.{ℕ, suc, ◌+◌, ◌-◌, ◌*◌, ◌/◌, ◌^◌, ◌≤◌, ◌<◌}
use native.Mathlib.Nat.{add-zero}
use native.Mathlib.Omega.{arith}
use lib.ListN.{length, get_or, drop, take}
use lib.Seq.{length-take-le}
use lib.Dec.{eqb}
use Rattle.definition.specs.Basics as basics
use Rattle.definition.specs.Basics.{gives, ◌>>=◌}
use Rattle.definition.specs.Choices.{Choices}
use Rattle.definition.specs.Elements.{is_node, row, tree}
use Rattle.definition.specs.Account.{said_lines, overlap_line}
use Rattle.account_lines.specs.Lines.{tell_in, said_rows}
use Rattle.read_element_table.specs.View.{view}
use Rattle.read_element_table.specs.Wellformed.{Wellformed}
use Rattle.rows_model.specs.Row.{first_rows}
use Rattle.run_annotations.specs.Notes.{notes_of}
use Rattle.run_annotations.specs.Changed.{changed_in}
use Rattle.run_tree_store.specs.Stored.{stored}
use Rattle.finish_model.specs.Finished.{result_of, first_tree}
use Rattle.finish_model.specs.Alike.{find_row}
use Rattle.finish_find.specs.Found.{found as found_by}
use Rattle.finish_result.specs.Weighed.{Weighs}
use Rattle.finish_result.specs.Answered.{Answered}
use Rattle.finish_result.specs.Cut.{cut_answered, cut_weighs}
use Rattle.edit_perform.specs.AtEnd.{AtEnd, Told as ElementsTold, withdrawn_in, Recounted}
use Rattle.edit_perform.specs.declared.Ended.{Ended}
use Rattle.plan_edit.specs.declared.Unplanned.{Unplanned}
use Rattle.plan_edit.specs.declared.Unplanned.TheVariants.{Refused, Overlap}
use Rattle.refusals.specs.Numbers.{number, answered as answer_told}
use Rattle.refusals.specs.declared.Refusal.{Refusal}
use Rattle.refusals.specs.declared.Refusal.TheVariants.{ShortResult, Overlap as Overlaps}
use Rattle.share_laws.specs.Share.{share}
use Rattle.share_rows.specs.Promises.{Shares}
use Rattle.kept_rows.specs.Pairs.{kept_rows}
use Rattle.kept_rows.specs.Promises.{tell_pairs}
use Rattle.share_rows.specs.declared.Thousandths.{Thousandths}
use Rattle.promises.specs.Promises.{left_in, found}
use Rattle.promises.specs.Serving.{reached, place, of_length, of_place, of_share, outcome, written, Tells, find_outcome, find_written, share_outcome, share_written}
use Rattle.promises.specs.declared.Job.{Job}
use Rattle.promises.specs.declared.Job.TheVariants.{Edit, Find, Account, Share, Kept}
use Rattle.promises.specs.declared.Told.{Told}
use Rattle.promises.specs.declared.Told.TheVariants.{Bytes, Place, Of}
use Rattle.edit_answer.specs.AtEnd.{RowsAtEnd, answered_edit, old_node, none_there, no_node, node_there, old_tree, no_old_node, old_node_lem, unless, unless_refused, unless_done, unless_overlap, overlap_told, overlap_answers, account_13, account_answer, share_told, ToKeep, pairs_answer, ToAnswer}

-- the words behind the rows are cut out
pub behind_cut : (n : ℕ) (changes : List ℕ) → take (3584 + n - 3584) (drop 3584 changes) ≡ withdrawn_in n changes
behind_cut n changes = let e : 3584 + n - 3584 ≡ n = omega arith in rw e refl

-- ── The result's bytes ──────────────────────────────────────────────────────────────────────────────────────

module _ {h : Choices} {b rows notes changed : List ℕ} {d : Ended} (v : AtEnd h b rows notes changed d) (held out : List ℕ) (a : Result ℕ Refusal) (text : List ℕ) (t : text ≡ drop d.text b)
    (f : (marks : List ℕ) → Answered held (result_of d.discarded d.climbs (stored text d.rows rows marks (notes_of (length (take (3 * d.notes) notes) / 3) (take (3 * d.notes) notes)) (changed_in (length (take d.changed changed)) (take d.changed changed)))) out a) where
  answered : (r : Result Told Refusal) → answer_told r ≡ of_length (answer_told a) → Tells (reached h Edit b (length held)) held r out
  answered = answered_edit v a (λ marks. rw (← t) (cut_answered d.notes d.changed notes changed v.notes_within v.changed_within _ _ _ _ _ f marks))

  pub answered_13 : (e : Refusal) → a ≡ Err e → Tells (reached h Edit b (length held)) held (Err e) out
  unfolding of_length answer_told
  answered_13 e i = answered (Err e) (rw i refl)

  pub answered_bytes : (n : ℕ) → a ≡ Ok n → Tells (reached h Edit b (length held)) held (Ok (Bytes n)) out
  unfolding of_length answer_told
  answered_bytes n i = answered (Ok (Bytes n)) (rw i refl)

-- ── Job by job ──────────────────────────────────────────────────────────────────────────────────────────────

-- a refusal leaves the result slice as it was
pub tells_refused : {p : Result Ended Unplanned} {u : Unplanned} {e : Refusal} → p ≡ Err u → u ≡ Refused e → (want : basics.Answer (Told × List ℕ)) (held : List ℕ) → Tells (unless p want) held (Err e) held
unfolding outcome written left_in answer_told
tells_refused q i want held = rw (unless_refused (q ∙ ap Err i) want) (record { answer = refl; result = refl })

-- at the end of the run, what is told is the answer
pub tells_done : {p : Result Ended Unplanned} {d : Ended} {held out : List ℕ} {r : Result Told Refusal} → p ≡ Ok d → (want : basics.Answer (Told × List ℕ)) → Tells want held r out → Tells (unless p want) held r out
tells_done e want h = rw (unless_done e want) h

-- who finds leaves the result slice as it was
pub tells_found : (h : Choices) (b held : List ℕ) (room n : ℕ) {r : Told} → gives r ≡ of_place (found h b n) → Tells (reached h (Find n) b room) held (Ok r) held
unfolding reached answer_told
tells_found h b held room n e = record { answer = e ∙ sym (find_outcome (found h b n)); result = find_written held (found h b n) }

-- the changed elements in use are few
pub few_used : {h : Choices} {b rows notes changed : List ℕ} {d : Ended} → AtEnd h b rows notes changed d → length (take d.changed changed) < 2 ^ 16
few_used {changed = changed} {d = d} v = omega (arith, length-take-le d.changed changed v.changed_within, v.few_changed)

-- what `share_rows` promises of the end of the run is the batch's share
pub share_answers : {h : Choices} {b rows notes changed : List ℕ} {d : Ended} {r : Thousandths} → AtEnd h b rows notes changed d → Shares rows d.rows (take d.changed changed) r → gives (Of r.quotient r.remainder) ≡ of_share (share h b)
unfolding changed_in
share_answers {b = b} {d = d} v f = share_told v (f (drop d.text b))

-- nor does the share write
pub tells_share : (h : Choices) (b held : List ℕ) (room : ℕ) {r : Told} → gives r ≡ of_share (share h b) → Tells (reached h Share b room) held (Ok r) held
unfolding reached answer_told
tells_share h b held room e = record { answer = e ∙ sym (share_outcome (share h b)); result = share_written held (share h b) }

-- what `kept_rows` tells of the end of the run is the batch's pairs
pub kept_answers : {h : Choices} {b source marks rows held out : List ℕ} {d : Ended} {r : Result Told Refusal} → ToKeep h b source marks rows d
    → ((before after : List ℕ) → Tells (tell_pairs (length held) (kept_rows (first_rows before (d.elements + 1) source) (first_rows after d.rows rows) marks)) held r out) → Tells (reached h Kept b (length held)) held r out
kept_answers {b = b} {held = held} {out} {d} {r} v f = subst (λ (x : basics.Answer (Told × List ℕ)). Tells x held r out) (pairs_answer v (length held)) (f v.old.text (drop d.text b))

-- two changes overlap
pub tells_overlap : {h : Choices} {b t s changes marks rows notes changed starts : List ℕ} {p : Result Ended Unplanned} {u : Unplanned} {j k : ℕ} {held out : List ℕ} {r : Result Told Refusal} (job : Job) → ToAnswer h b t s changes marks rows notes changed starts p → p ≡ Err u → u ≡ Overlap (record { earlier = j; later = k })
    → Tells (overlap_told job j k (length held)) held r out → Tells (unless p (reached h job b (length held))) held r out
tells_overlap {h} {b} {p = p} {j = j} {k = k} {held = held} {out = out} {r = r} job v f i q =
    let e : p ≡ Err (Overlap (record { earlier = j; later = k })) = f ∙ ap Err i in
    rw (unless_overlap e (reached h job b (length held))) (subst (λ (w : basics.Answer (Told × List ℕ)). Tells w held r out) (overlap_answers h job b j k (length held) (v.overlaps j k e)) q)

-- the account: 13 where the edit program's buffer could not hold the result, or the fates
module _ {h : Choices} {b changes rows notes changed : List ℕ} {d : Ended} (v : AtEnd h b rows notes changed d × Recounted h b changes d) (held text : List ℕ) (t : text ≡ drop d.text b) {size : ℕ}
    (u : Weighs text d.rows rows (notes_of (length (take (3 * d.notes) notes) / 3) (take (3 * d.notes) notes)) (changed_in (length (take d.changed changed)) (take d.changed changed)) size) where
  w : Weighs text d.rows rows (notes_of d.notes notes) (changed_in d.changed changed) size
  w = cut_weighs d.notes d.changed notes changed v.0.notes_within v.0.changed_within u

  pub account_refused : 65536 < size → Tells (reached h Account b (length held)) held (Err ShortResult) held
  unfolding outcome written left_in answer_told number
  account_refused l = rw (account_13 v.0 v.1 (rw t at w) (length held) l) (record { answer = refl; result = refl })

  -- the words that tell which changes are withdrawn are cut out behind the rows
  pub account_told : {part out : List ℕ} {r : Result Told Refusal} → part ≡ withdrawn_in d.recorded changes → size ≤ 65536 → Tells (tell_in (length held) (said_lines (said_rows changes part))) held r out → Tells (reached h Account b (length held)) held r out
  account_told {part} {out} {r} e l q = subst (λ (x : basics.Answer (Told × List ℕ)). Tells x held r out) (ap (λ (ps : List ℕ). tell_in (length held) (said_lines (said_rows changes ps))) e ∙ account_answer v.0 v.1 (rw t at w) (length held) l) q

-- a job that is refused by 8 leaves the result slice as it was
tells_8 : (job : Job) (j k room : ℕ) (held : List ℕ) → overlap_told job j k room ≡ basics.refused 8 → Tells (overlap_told job j k room) held (Err Overlaps) held
unfolding outcome written left_in answer_told number
tells_8 job j k room held e = rw e (record { answer = refl; result = refl })

pub others_8 : {job : Job} (j k : ℕ) (held : List ℕ) → (job ≡ Edit) ⊎ (((n : ℕ) × job ≡ Find n) ⊎ ((job ≡ Share) ⊎ (job ≡ Kept))) → Tells (overlap_told job j k (length held)) held (Err Overlaps) held
unfolding overlap_told
others_8 {job} j k held (inl e) = tells_8 job j k (length held) held (rw e refl)
others_8 {job} j k held (inr (inl (n, e))) = tells_8 job j k (length held) held (rw e refl)
others_8 {job} j k held (inr (inr (inl e))) = tells_8 job j k (length held) held (rw e refl)
others_8 {job} j k held (inr (inr (inr e))) = tells_8 job j k (length held) held (rw e refl)

pub account_8 : {job : Job} (j k : ℕ) {held out : List ℕ} {r : Result Told Refusal} → job ≡ Account → Tells (tell_in (length held) (overlap_line j k)) held r out → Tells (overlap_told job j k (length held)) held r out
unfolding overlap_told
account_8 j k e h = rw e h

-- ── A node of tree 0 ────────────────────────────────────────────────────────────────────────────────────────

module _ (n : ℕ) (t s : List ℕ) (k : ℕ) (h : k < n) (b : Bool) (e : b ≡ is_node (get_or s (3 * suc k) 0)) where
  pub token_there : b ≡ false → false ≡ old_node (view n t s) k
  token_there q = no_node n t s k h b e q

  pub root_there : Wellformed n t s → b ≡ true → (x : ℕ) → x ≡ get_or t (8 * k + 7) 0 → eqb x 0 ≡ old_node (view n t s) k
  root_there W q x f = node_there n t s k h b e W.lines q x f

-- ── Where it stands ─────────────────────────────────────────────────────────────────────────────────────────

pub none_numbered : {h : Choices} {b rows t s : List ℕ} {d : Ended} → RowsAtEnd h b rows d → ElementsTold b t s d.elements → (k : ℕ) → d.elements ≤ k → gives (Place None) ≡ of_place (found h b k)
unfolding of_place place
none_numbered {h} {b} {rows} {t} {s} {d} v w k q = ap of_place (no_old_node v w k (sym (none_there d.elements t s k q)))

module _ {h : Choices} {b rows t s : List ℕ} {d : Ended} (v : RowsAtEnd h b rows d) (w : ElementsTold b t s d.elements) (k : ℕ) (o : Bool) (p : o ≡ old_node (view d.elements t s) k) where
  pub none_asked : o ≡ false → gives (Place None) ≡ of_place (found h b k)
  unfolding of_place place
  none_asked q = ap of_place (no_old_node v w k (sym p ∙ q))

  pub asked_old : o ≡ true → tree (view d.elements t s) k ≡ 0
  asked_old q = old_tree (view d.elements t s) k (sym p ∙ q)

  module _ (q : o ≡ true) (low : k < d.elements) (kind start : ℕ) (e : kind ≡ get_or s (3 * suc k + 0) 0) (f : start ≡ (row (view d.elements t s) k).start) (r : prelude.Option ℕ)
      (g : (text : List ℕ) → r ≡ found_by (find_row (first_tree (first_rows text d.rows rows)) kind start)) where
    meant : (o : Option ℕ) → r ≡ found_by o → gives o ≡ found h b k → gives (Place r) ≡ of_place (found h b k)
    unfolding found_by of_place place
    meant none i j = rw i (ap of_place j)
    meant (some y) i j = rw i (ap of_place j)

    pub found_told : gives (Place r) ≡ of_place (found h b k)
    found_told = meant (find_row (first_tree (first_rows (drop d.text b) d.rows rows)) kind start) (g (drop d.text b)) (old_node_lem v w k (sym p ∙ q) low kind start (e ∙ ap (λ (i : ℕ). get_or s i 0) (add-zero (3 * suc k))) f)
