-- Refused: by which numbers each stage refuses; so 13 comes only where the result slice has no room, 1 only where a work slice is too short, and 17 and 18 only where there is no such edge rule.
-- Assumes nothing.
use Rattle.std.specs.Prelude.{◌≡◌, Bool, ◌&&◌, ◌||◌, ltb, eqb, length}
use Rattle.std.proofs.Math.Path.{refl}
use Rattle.std.proofs.Common.{sym, ap, ◌∙◌, arith, ltb-true, ltb-false, eqb-true}
use Rattle.std.proofs.Math.Bool.{true, false, not}
use mathlib.Core.List.{List, [], ◌∷◌, ◌++◌, map, zip}
use Rattle.std.proofs.Math.Option.{Option, none, some}
use Prim.Native.Nat.{ℕ, zero, suc, ◌≤◌, ◌<◌}
use Rattle.std.proofs.Math.ListN.{get_or}
use Rattle.std.proofs.lemmas.Bool.{not-false}
use Rattle.orders.specs.ListLaws.{bool_absurd, either_false}
use Rattle.orders.specs.Tree.{Path}
use Rattle.definition.specs.Basics.{Answer, refused, gives, ◌>>=◌, refuse, or_refuse, any, among}
use Rattle.definition.specs.Choices.{Choices, chosen}
use Rattle.definition.specs.Batch.{batch, sizes, beyond, whole}
use Rattle.definition.specs.Elements.{Table, table, spelled, node?, parent, child, place_below, descend}
use Rattle.definition.specs.Refusals.{calls, lists_too_many, wrong_call, wrong_mapping, wrong_note, Accepted, accepted}
use Rattle.definition.specs.Recording.{Change, insert, replace, delete, replace_with_many, replace_all, call}
use Rattle.definition.specs.Planning.{Fate, own, dependent, discarded, Planned, target, Judgement, overlaps, fated}
use Rattle.definition.specs.Rewriting.{mapping, replacement, mapped_or, climb, trail, land, moved, retarget, rewrite_into, rewrite_one, rewriting, rewritten, nearest, is_parent, note_from, settle, settled}
use Rattle.definition.specs.Running.{World, place, yield, news, spliced, too_large, recorded_by, step, steps}
use Rattle.definition.specs.Finishing.{Result, result, encoded, fitting}
use Rattle.definition.specs.Answers.{withdrawing, judge_changes, disjoint, rewrite_changes, Plan, plan, performed, at_first, ran, edit, edited, too_short, with_work, with_choices}
use Rattle.definition.specs.FindElement.{find_in, find_element}
use Rattle.definition.specs.Printed.{program_room}
use Rattle.definition.specs.Account.{said, account, in_room, accounted}
use Rattle.definition_laws.specs.Answers.{refused_inj, refused_gives}
use Rattle.definition_laws.specs.Limits.{most_bytes}
use Rattle.definition_laws.proofs.Limits.{encoded_within}
use Rattle.share_laws.specs.Share.{share_in, share, shared}
use Rattle.check_laws.specs.Claimed.{own_pairs}
use Rattle.promises.specs.Slices.{needed, lengths}
use Rattle.promises.specs.Keeping.{kept_pairs, pair_bytes, paired, kept}
use Rattle.promises.specs.Promises.{Edits, Finds, applied, found, short_edited, long_edited, long_found}

-- ── A refusal out of a list of numbers ──────────────────────────────────────────────────────────────────────

-- what is refused is refused by one of the numbers ns
abbrev pub By : {A : Type 0} → List ℕ → Answer A → Type 0
By ns (refused k) = among ns k ≡ true
By ns (gives a) = Unit

-- the numbers by which lines 2 to 7 refuse (16 right after 6), then planning, then the steps
abbrev pub batch_lines : List ℕ
batch_lines = 2 ∷ 3 ∷ 4 ∷ 5 ∷ 6 ∷ 16 ∷ 7 ∷ []

abbrev pub rewrite_lines : List ℕ
rewrite_lines = 9 ∷ 10 ∷ []

abbrev pub plan_lines : List ℕ
plan_lines = 8 ∷ rewrite_lines

abbrev pub step_lines : List ℕ
step_lines = 11 ∷ 12 ∷ []

-- those of a batch's edit
abbrev pub edit_lines : List ℕ
edit_lines = batch_lines ++ plan_lines ++ step_lines

-- THE NUMBERS that each public call can give: 17 for the edge rule, 18 for stronger rules first, 1 for a work slice, 13 for the result slice
abbrev pub edit_numbers : List ℕ
edit_numbers = 17 ∷ 18 ∷ 1 ∷ 13 ∷ edit_lines

-- of `account`: 8 is none of them
abbrev pub account_numbers : List ℕ
account_numbers = 17 ∷ 18 ∷ 1 ∷ 13 ∷ batch_lines ++ rewrite_lines ++ step_lines

abbrev pub find_numbers : List ℕ
find_numbers = 17 ∷ 18 ∷ 1 ∷ edit_lines

-- one of the numbers has what none of them lacks
one_of : (lacks : ℕ → Bool) (ns : List ℕ) (k : ℕ) → any lacks ns ≡ false → among ns k ≡ true → lacks k ≡ false
unfolding among any
one_of lacks [] k h e = bool_absurd e refl
one_of lacks (n ∷ ns) k h e = let r = either_false (lacks n) (any lacks ns) h in go (eqb k n) refl e r.0 (one_of lacks ns k r.1)
  where
    go : (t : Bool) → eqb k n ≡ t → (t || any (eqb k) ns) ≡ true → lacks n ≡ false → (any (eqb k) ns ≡ true → lacks k ≡ false) → lacks k ≡ false
    go true q e this later = rw (eqb-true k n q) this
    go false q e this later = later e

-- a refusal's number is within the bounds of its list
pub by_number : {A : Type 0} (ns : List ℕ) (lo hi k : ℕ) (o : Answer A) → any (λ n. ltb n lo || ltb hi n) ns ≡ false → By ns o → o ≡ refused k → (lo ≤ k) × (k ≤ hi)
by_number ns lo hi k o w h e =
    let r = either_false (ltb k lo) (ltb hi k) (one_of (λ n. ltb n lo || ltb hi n) ns k w (rw e at h)) in
    (ltb-false k lo r.0, ltb-false hi k r.1)

-- a longer list
pub by_more : {A : Type 0} (few more : List ℕ) (o : Answer A) → any (λ k. not (among more k)) few ≡ false → By few o → By more o
by_more few more (refused k) w h = not-false (among more k) (one_of (λ k. not (among more k)) few k w h)
by_more few more (gives x) w h = tt

module _ (ns : List ℕ) where
  pub by_then : {A B : Type 0} (o : Answer A) (f : A → Answer B) → By ns o → ((a : A) → By ns (f a)) → By ns (o >>= f)
  unfolding ◌>>=◌
  by_then (refused k) f h k' = h
  by_then (gives a) f h k' = k' a

  pub by_refuse : (n : ℕ) (b : Bool) → among ns n ≡ true → By ns (refuse n b)
  unfolding refuse
  by_refuse n true h = h
  by_refuse n false h = tt

  pub by_or : {A : Type 0} (n : ℕ) (o : Option A) → among ns n ≡ true → By ns (or_refuse n o)
  unfolding or_refuse
  by_or n none h = h
  by_or n (some a) h = tt

-- ── Lines 2 to 7 ────────────────────────────────────────────────────────────────────────────────────────────

-- Lines 2 to 7 refuse by 2 to 7 and 16.
pub accepted_by : (b : List ℕ) → By batch_lines (accepted b)
unfolding accepted batch among any
accepted_by b =
    by_then batch_lines (batch b) _
    (by_then batch_lines (refuse 2 (ltb (length b) 28)) _ (by_refuse batch_lines 2 _ refl) λ u.
    by_then batch_lines (refuse 3 (beyond (sizes b))) _ (by_refuse batch_lines 3 _ refl) λ u.
    by_then batch_lines (refuse 4 (not (eqb (length b) (whole (sizes b))))) _ (by_refuse batch_lines 4 _ refl) λ u. tt)
    λ B.
    by_then batch_lines (or_refuse 5 (spelled B)) _ (by_or batch_lines 5 _ refl) λ ts.
    by_then batch_lines (or_refuse 6 (calls (zip B.calls B.targets) B.listed)) _ (by_or batch_lines 6 _ refl) λ cs.
    by_then batch_lines (refuse 6 (any (wrong_call (table 0 0 ts)) cs)) _ (by_refuse batch_lines 6 _ refl) λ u.
    by_then batch_lines (refuse 16 (any lists_too_many cs)) _ (by_refuse batch_lines 16 _ refl) λ u.
    by_then batch_lines (refuse 7 (any (wrong_mapping (table 0 0 ts)) (zip B.inputs B.outputs) || any (wrong_note (table 0 0 ts)) (zip B.noted B.numbers))) _ (by_refuse batch_lines 7 _ refl) λ u. tt

-- ── Lines 8 to 10 ───────────────────────────────────────────────────────────────────────────────────────────

either : {A : Type 0} (b : Bool) (a later : Answer A) → By rewrite_lines a → By rewrite_lines later → By {A = A} rewrite_lines (elim b as (λ b. Answer A) [ true ↦ a | false ↦ later ])
either true a later h k = h
either false a later h k = k

module _ (T : Table) (mapped : ℕ → Option ℕ) where
  climb_by : (n r x : ℕ) (p : Path) → By rewrite_lines (climb T mapped n r x p)
  unfolding climb among any
  climb_by zero r x p = go (parent T x)
    where
      go : (o : Option ℕ) → By {A = Path} rewrite_lines (elim o as (λ o. Answer Path) [ none ↦ refused 9 | some q ↦ refused 10 ])
      go none = refl
      go (some q) = refl
  climb_by (suc n) r x p = go (parent T x) (λ y. climb_by n r y (child T y ∷ p))
    where
      go : (o : Option ℕ) → ((y : ℕ) → By rewrite_lines (climb T mapped n r y (child T y ∷ p))) →
          By {A = Path} rewrite_lines (elim o as (λ o. Answer Path) [
            | none ↦ refused 9
            | some q ↦ elim (eqb q r) as (λ b. Answer Path) [ true ↦ gives p | false ↦ climb T mapped n r (mapped_or T mapped q) (child T (mapped_or T mapped q) ∷ p) ]
          ])
      go none h = refl
      go (some q) h = either (eqb q r) (gives p) (climb T mapped n r (mapped_or T mapped q) (child T (mapped_or T mapped q) ∷ p)) tt (h (mapped_or T mapped q))

  trail_by : (x r : ℕ) → By rewrite_lines (trail T mapped x r)
  unfolding trail
  trail_by x r =
      let y = mapped_or T mapped x in
      either (eqb x r) (gives []) (climb T mapped (length T) r y (child T y ∷ [])) tt (climb_by (length T) r y (child T y ∷ []))

  land_by : (e r : ℕ) (p : Path) → By rewrite_lines (land T mapped e r p)
  unfolding land among any
  land_by e r p =
      by_then rewrite_lines (or_refuse 9 (descend T r p)) _ (by_or rewrite_lines 9 _ refl) λ to.
      by_then rewrite_lines (refuse 9 (node? T e && not (node? T to))) _ (by_refuse rewrite_lines 9 _ refl) λ u. tt

  moved_by : (x r e : ℕ) → By rewrite_lines (moved T mapped x r e)
  unfolding moved among any
  moved_by x r e =
      by_then rewrite_lines (or_refuse 9 (place_below T x e)) _ (by_or rewrite_lines 9 _ refl) λ p.
      by_then rewrite_lines (trail T mapped x r) _ (trail_by x r) λ q.
      by_then rewrite_lines (land T mapped e r (q ++ p)) _ (land_by e r (q ++ p)) λ to. tt

  retarget_by : (f : ℕ → Answer (ℕ × ℕ)) → ((e : ℕ) → By rewrite_lines (f e)) → (c : Change) → By rewrite_lines (retarget T mapped f c)
  unfolding retarget
  retarget_by f h (insert p x l) = by_then rewrite_lines (f x) _ (h x) λ m. tt
  retarget_by f h (replace x y) = by_then rewrite_lines (f x) _ (h x) λ m. tt
  retarget_by f h (delete x) = by_then rewrite_lines (f x) _ (h x) λ m. tt
  retarget_by f h (replace_with_many x l) = by_then rewrite_lines (f x) _ (h x) λ m. tt
  retarget_by f h (replace_all x y l) = by_then rewrite_lines (f x) _ (h x) λ m. by_then rewrite_lines (f y) _ (h y) λ k. tt

  rewrite_one_by : (cs : List Change) (f : Fate) (c : Change) → By rewrite_lines (rewrite_one T mapped cs f c)
  unfolding rewrite_one rewrite_into among any
  rewrite_one_by cs own c = tt
  rewrite_one_by cs (dependent k) c =
      let owner = get_or cs k (delete 0) in
      let f = moved T mapped (target owner) (replacement owner) in
      by_then rewrite_lines (retarget T mapped f c) _ (retarget_by f (λ e. moved_by (target owner) (replacement owner) e) c) λ m.
      by_then rewrite_lines (refuse 9 (wrong_call T (call m.0))) _ (by_refuse rewrite_lines 9 _ refl) λ u. tt
  rewrite_one_by cs (discarded k) c = tt

  rewriting_by : (cs : List Change) (ps : List Planned) → By rewrite_lines (rewriting T mapped cs ps)
  unfolding rewriting
  rewriting_by cs [] = tt
  rewriting_by cs (p ∷ ps) = by_then rewrite_lines (rewriting T mapped cs ps) _ (rewriting_by cs ps) λ later. by_then rewrite_lines (rewrite_one T mapped cs p.fate p.change) _ (rewrite_one_by cs p.fate p.change) λ m. tt

  note_from_by : (a e : ℕ) → By rewrite_lines (note_from T mapped a e)
  unfolding note_from among any
  note_from_by a e =
      by_then rewrite_lines (refuse 10 (is_parent T mapped a (mapped_or T mapped a))) _ (by_refuse rewrite_lines 10 _ refl) λ u.
      by_then rewrite_lines (or_refuse 9 (place_below T a e)) _ (by_or rewrite_lines 9 _ refl) λ p. land_by e (mapped_or T mapped a) p

  settle_by : (n e : ℕ) → By rewrite_lines (settle T mapped n e)
  unfolding settle among any
  settle_by zero e = go (nearest T mapped e)
    where
      go : (o : Option ℕ) → By {A = ℕ} rewrite_lines (elim o as (λ o. Answer ℕ) [ none ↦ gives e | some a ↦ refused 10 ])
      go none = tt
      go (some a) = refl
  settle_by (suc n) e = go (nearest T mapped e) (λ to. settle_by n to)
    where
      go : (o : Option ℕ) → ((to : ℕ) → By rewrite_lines (settle T mapped n to)) → By {A = ℕ} rewrite_lines (elim o as (λ o. Answer ℕ) [ none ↦ gives e | some a ↦ note_from T mapped a e >>= λ to. settle T mapped n to ])
      go none h = tt
      go (some a) h = by_then rewrite_lines (note_from T mapped a e) _ (note_from_by a e) h

  settled_by : (i : ℕ) (ns : List (ℕ × ℕ)) → By rewrite_lines (settled T mapped i ns)
  unfolding settled
  settled_by i [] = tt
  settled_by i (n ∷ ns) = by_then rewrite_lines (settle T mapped (length T) n.0) _ (settle_by (length T) n.0) λ e. by_then rewrite_lines (settled T mapped (suc i) ns) _ (settled_by (suc i) ns) λ rest. tt

disjoint_by : (j : Judgement) → By plan_lines (disjoint j)
unfolding disjoint among any
disjoint_by (overlaps i k) = refl
disjoint_by (fated ps) = tt

rewrite_by : (a : Accepted) (ps : List Planned) → By rewrite_lines (rewrite_changes a ps)
unfolding rewrite_changes rewritten
rewrite_by a ps =
    let T = a.table in
    let mapped = mapping a.mappings in
    by_then rewrite_lines (rewritten T mapped ps) _ (rewriting_by T mapped (map (λ p. p.change) ps) ps) λ rs.
    by_then rewrite_lines (settled T mapped 0 a.notes) _ (settled_by T mapped 0 a.notes) λ notes. tt

-- Planning refuses by 8 to 10.
pub plan_by : (h : Choices) (a : Accepted) → By plan_lines (plan h a)
unfolding plan among any
plan_by h a = by_then plan_lines (disjoint (judge_changes h a)) _ (disjoint_by (judge_changes h a)) λ ps. by_more rewrite_lines plan_lines (rewrite_changes a ps) refl (rewrite_by a ps)

-- ── Lines 11 and 12 ─────────────────────────────────────────────────────────────────────────────────────────

-- Steps refuse by 11 and 12.
pub steps_by : (T : Table) (first w : World) (ps : List Planned) → By step_lines (steps T first w ps)
unfolding steps step among any
steps_by T first w [] = tt
steps_by T first w (p ∷ ps) =
    by_then step_lines (step T first w p) _
    (by_then step_lines (or_refuse 11 (place T w p.change)) _ (by_or step_lines 11 _ refl) λ r.
    by_then step_lines (refuse 12 (too_large (spliced r (map (yield first w) (news p.change)) (recorded_by T p) w))) _ (by_refuse step_lines 12 _ refl) λ u. tt)
    λ next. steps_by T first next ps

-- ── The edit ────────────────────────────────────────────────────────────────────────────────────────────────

ran_by : (a : Accepted) (p : Plan) → By step_lines (ran a p)
unfolding ran
ran_by a p = steps_by a.table (at_first a p) (at_first a p) (performed a p)

-- Whatever is told of what a batch's run leaves: the batch is refused by 2 to 12 or 16.
stages_by : {A : Type 0} (h : Choices) (b : List ℕ) (tell : Accepted → Plan → World → A) → By edit_lines (accepted b >>= λ a. plan h a >>= λ p. ran a p >>= λ w. gives (tell a p w))
unfolding among any
stages_by h b tell =
    by_then edit_lines (accepted b) _ (by_more batch_lines edit_lines (accepted b) refl (accepted_by b)) λ a.
    by_then edit_lines (plan h a) _ (by_more plan_lines edit_lines (plan h a) refl (plan_by h a)) λ p.
    by_then edit_lines (ran a p) _ (by_more step_lines edit_lines (ran a p) refl (ran_by a p)) λ w. tt

-- The edit of a batch refuses by 2 to 12 or 16.
pub edit_by : (h : Choices) (b : List ℕ) → By edit_lines (edit h b)
unfolding edit
edit_by h b = stages_by h b (λ a p w. result p.changes p.climbs w)

-- ── `find_element` ──────────────────────────────────────────────────────────────────────────────────────────

-- both are refused, by one number, or neither
abbrev pub Alike : {A B : Type 0} → Answer A → Answer B → Type 0
Alike (refused j) (refused k) = j ≡ k
Alike (refused j) (gives b) = ⊥
Alike (gives a) (refused k) = ⊥
Alike (gives a) (gives b) = Unit

alike_then : {A B C : Type 0} (o : Answer A) (f : A → Answer B) (g : A → Answer C) → ((a : A) → Alike (f a) (g a)) → Alike (o >>= f) (o >>= g)
unfolding ◌>>=◌
alike_then (refused k) f g h = refl
alike_then (gives a) f g h = h a

-- "the batch's refusals come first": `find_element` is refused just where the edit is.
pub found_alike : (h : Choices) (b : List ℕ) (n : ℕ) → Alike (found h b n) (edit h b)
unfolding found edit
found_alike h b n = alike_then (accepted b) _ _ λ a. alike_then (plan h a) _ _ λ p. alike_then (ran a p) _ _ λ w. tt

-- ── The public calls ────────────────────────────────────────────────────────────────────────────────────────

-- a buffer that is too short refuses by 13
fitting_by : (ns : List ℕ) → among ns 13 ≡ true → (room : ℕ) (r : Result) → By ns (fitting room r)
unfolding fitting among any
fitting_by ns h room r = by_then ns (refuse 13 (ltb room (length (encoded r)))) _ (by_refuse ns 13 _ h) λ u. tt

-- what refuses by 17, 18 and 1, before an answer that refuses by others
module _ {A : Type 0} (ns : List ℕ) (seventeen : among ns 17 ≡ true) (eighteen : among ns 18 ≡ true) (one : among ns 1 ≡ true) where
  with_by : (h : Choices) (work : List (ℕ × ℕ)) (o : Answer A) → By ns o → By ns (with_choices h work o)
  unfolding with_choices with_work chosen
  with_by h work o k =
      by_then ns (refuse 17 (ltb 1 h.edge) >>= λ u. refuse 18 (ltb 1 h.stronger)) _ (by_then ns (refuse 17 (ltb 1 h.edge)) _ (by_refuse ns 17 _ seventeen) λ u. by_refuse ns 18 _ eighteen) λ u.
      by_then ns (refuse 1 (too_short work)) _ (by_refuse ns 1 _ one) λ u. k

-- `edit` refuses by one of its numbers.
pub edited_by : (h : Choices) (work : List (ℕ × ℕ)) (b : List ℕ) (room : ℕ) → By edit_numbers (edited h work b room)
unfolding edited among any
edited_by h work b room =
    with_by edit_numbers refl refl refl h work _
    (by_then edit_numbers (edit h b) _ (by_more edit_lines edit_numbers (edit h b) refl (edit_by h b)) λ r.
    by_then edit_numbers (fitting room r) _ (fitting_by edit_numbers refl room r) λ r. tt)

-- So they are 1 to 13 and 16 to 18.
pub edited_numbered : (h : Choices) (work : List (ℕ × ℕ)) (b : List ℕ) (room k : ℕ) → edited h work b room ≡ refused k → among edit_numbers k ≡ true
edited_numbered h work b room k e = let by = edited_by h work b room in rw e at by

said_by : (a : Accepted) (ws : List (Option ℕ)) (j : Judgement) → By account_numbers (said a ws j)
unfolding said among any
said_by a ws (overlaps i k) = tt
said_by a ws (fated ps) =
    by_then account_numbers (rewrite_changes a ps) _ (by_more rewrite_lines account_numbers (rewrite_changes a ps) refl (rewrite_by a ps)) λ p.
    by_then account_numbers (ran a p) _ (by_more step_lines account_numbers (ran a p) refl (ran_by a p)) λ w.
    by_then account_numbers (fitting program_room (result p.changes p.climbs w)) _ (fitting_by account_numbers refl program_room (result p.changes p.climbs w)) λ r. tt

-- `account` refuses by one of its numbers: never by 8, which it tells as text.
pub accounted_by : (h : Choices) (work : List (ℕ × ℕ)) (b : List ℕ) (room : ℕ) → By account_numbers (accounted h work b room)
unfolding accounted account in_room among any
accounted_by h work b room =
    with_by account_numbers refl refl refl h work _
    (by_then account_numbers (account h b) _ (by_then account_numbers (accepted b) _ (by_more batch_lines account_numbers (accepted b) refl (accepted_by b)) λ a. said_by a (withdrawing h a) (judge_changes h a)) λ text.
    by_then account_numbers (refuse 13 (ltb room (length text))) _ (by_refuse account_numbers 13 _ refl) λ u. tt)

-- `find_element` refuses by one of its numbers.
pub found_by : (h : Choices) (work : List (ℕ × ℕ)) (b : List ℕ) (n : ℕ) → By find_numbers (find_element h work b n)
unfolding find_element found among any
found_by h work b n = with_by find_numbers refl refl refl h work _ (by_more edit_lines find_numbers (found h b n) refl (stages_by h b (λ a p w. find_in a.table w n)))

-- So they are 1 to 12 and 16 to 18.
pub found_numbered : (h : Choices) (work : List (ℕ × ℕ)) (b : List ℕ) (n k : ℕ) → find_element h work b n ≡ refused k → among find_numbers k ≡ true
found_numbered h work b n k e = let by = found_by h work b n in rw e at by

-- `share` refuses by one of these too: it has no result slice, so never by 13.
pub shared_by : (h : Choices) (work : List (ℕ × ℕ)) (b : List ℕ) → By find_numbers (shared h work b)
unfolding shared share among any
shared_by h work b = with_by find_numbers refl refl refl h work _ (by_more edit_lines find_numbers (share h b) refl (stages_by h b (λ a p w. share_in w)))

-- `kept` refuses by one of the edit's.
pub kept_by : (h : Choices) (work : List (ℕ × ℕ)) (b : List ℕ) (room : ℕ) → By edit_numbers (kept h work b room)
unfolding kept paired kept_pairs in_room among any
kept_by h work b room =
    with_by edit_numbers refl refl refl h work _
    (by_then edit_numbers (kept_pairs h b) _ (by_more edit_lines edit_numbers (kept_pairs h b) refl (stages_by h b (λ a p w. own_pairs a.trees w))) λ ps.
    by_then edit_numbers (refuse 13 (ltb room (length (pair_bytes ps)))) _ (by_refuse edit_numbers 13 _ refl) λ u. tt)

-- why a call is refused: for the edge rule, for the choice of stronger rules first, for a work slice, for the batch, or for the result slice
pub data Why (h : Choices) (b held : List ℕ) (work : List (List ℕ)) : ℕ → Type 0 where
  no_such_rule : 1 < h.edge → Why h b held work 17
  neither_on_nor_off : h.edge ≤ 1 → 1 < h.stronger → Why h b held work 18
  work_short : too_short (lengths needed work) ≡ true → Why h b held work 1
  wrong : {k : ℕ} → among edit_lines k ≡ true → edit h b ≡ refused k → Why h b held work k
  result_short : (R : Result) → edit h b ≡ gives R → length held < length (encoded R) → Why h b held work 13

-- A call that keeps its promise and refuses has one of these reasons.
pub refused_why : (h : Choices) (b held : List ℕ) (work : List (List ℕ)) (r : Answer ℕ) (holds : List ℕ) (left : List (List ℕ)) → Edits h b held work r holds left → (k : ℕ) → r ≡ refused k → Why h b held work k
unfolding edited with_choices chosen applied fitting refuse any ◌>>=◌
refused_why h b held work r holds left p k e = rule (ltb 1 h.edge) (ltb 1 h.stronger) refl refl
  where
    -- the number, from the bytes that are wanted
    number : (want : Answer (List ℕ)) → edited h (lengths needed work) b (length held) ≡ want → (want >>= λ bytes. gives (length bytes)) ≡ refused k
    number want q = ap (λ x. x >>= λ bytes. gives (length bytes)) (sym q) ∙ (sym p.answer ∙ e)

    fit : Result → Answer (List ℕ)
    fit R = fitting (length held) R >>= λ S. gives (encoded S)

    room : (R : Result) → edit h b ≡ gives R → edited h (lengths needed work) b (length held) ≡ fit R → (t : Bool) → ltb (length held) (length (encoded R)) ≡ t → Why h b held work k
    room R x q true t = rw (← refused_inj (number (refused 13) (q ∙ rw t refl))) (result_short R x (ltb-true (length held) (length (encoded R)) t))
    room R x q false t = refused_gives (sym (number (gives (encoded R)) (q ∙ rw t refl)))

    answer : (o : Answer Result) → edit h b ≡ o → edited h (lengths needed work) b (length held) ≡ (o >>= fit) → Why h b held work k
    answer (refused j) x q =
        let z : edit h b ≡ refused k = x ∙ ap {B = Answer Result} refused (refused_inj (number (refused j) q)) in
        let by = edit_by h b in
        wrong (rw z at by) z
    answer (gives R) x q = room R x q (ltb (length held) (length (encoded R))) refl

    go : chosen h ≡ gives tt → (t : Bool) → too_short (lengths needed work) ≡ t → Why h b held work k
    go c true t = rw (← refused_inj (number (refused 1) (short_edited h c work b (length held) t))) (work_short t)
    go c false t = answer (edit h b) refl (long_edited h c work b (length held) t)

    rule : (t s : Bool) → ltb 1 h.edge ≡ t → ltb 1 h.stronger ≡ s → Why h b held work k
    rule true s t u = rw (← refused_inj (number (refused 17) (rw t refl))) (no_such_rule (ltb-true 1 h.edge t))
    rule false true t u = rw (← refused_inj (number (refused 18) (rw (t, u) refl))) (neither_on_nor_off (ltb-false 1 h.edge t) (ltb-true 1 h.stronger u))
    rule false false t u = go (rw (t, u) refl) (too_short (lengths needed work)) refl

-- With room for the most bytes that a result has, 65,560, 13 never comes. (The edit program's buffer has 65,536.)
pub never_13 : (h : Choices) (b held : List ℕ) (work : List (List ℕ)) (r : Answer ℕ) (holds : List ℕ) (left : List (List ℕ)) → Edits h b held work r holds left → most_bytes ≤ length held → r ≡ refused 13 → ⊥
unfolding among any
never_13 h b held work r holds left p m e = go 13 refl (refused_why h b held work r holds left p 13 e)
  where
    go : (k : ℕ) → k ≡ 13 → Why h b held work k → ⊥
    go k z (no_such_rule t) = omega arith
    go k z (neither_on_nor_off s t) = omega arith
    go k z (work_short t) = omega arith
    go k z (wrong by x) = bool_absurd (rw z at by) refl
    go k z (result_short R x l) = omega (arith, encoded_within h b R x)

-- So every call of `find_element` that keeps its promise, with choices of 0 or 1 and no work slice too short, is refused just where the edit of the batch is.
pub find_refused : (h : Choices) (b : List ℕ) (n : ℕ) (work : List (List ℕ)) (r : Answer (Option ℕ)) (left : List (List ℕ)) → Finds h b n work r left → chosen h ≡ gives tt → too_short (lengths needed work) ≡ false → Alike r (edit h b)
find_refused h b n work r left p c w = rw (p.element, long_found h c work b n w) (found_alike h b n)
