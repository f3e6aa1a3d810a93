-- The ways out of the public calls.
-- Assumes nothing.
use Rattle.std.specs.Prelude as prelude
use Rattle.std.specs.Prelude.{Result, Ok, Err, Some, None}
use mathlib.Core.Path.{◌≡◌, refl, sym, ap, subst, ◌∙◌}
use mathlib.Core.Bool.{false}
use mathlib.Core.List.{List}
use mathlib.Core.Option.{Option, none, some}
use Prim.Native.Nat.{ℕ, ◌≤◌}
use native.Mathlib.Omega.{arith}
use lib.ListN.{length}
use Rattle.definition.specs.Basics as basics
use Rattle.definition.specs.Basics.{refused, gives, ◌>>=◌, refuse}
use Rattle.definition.specs.Choices.{Choices}
use Rattle.definition.specs.Answers.{too_short}
use Rattle.definition.specs.Account.{account}
use Rattle.definition_laws.specs.Answers.{refused_gives}
use Rattle.promises.specs.Slices.{needed, lengths, zeroed}
use Rattle.promises.specs.Keeping.{paired}
use Rattle.promises.specs.Promises.{Edits, Finds, Accounts, Shares, Keeps, applied, recounted, with_long}
use Rattle.promises.specs.Serving.{reached, served, place, of_length, of_place, of_share, Tells, Serves, serves_edits, serves_finds, serves_accounts, serves_shares, serves_keeps}
use Rattle.promises.specs.declared.Job.{Job}
use Rattle.promises.specs.declared.Job.TheVariants.{Edit, Find, Account, Share, Kept}
use Rattle.promises.specs.declared.Told.{Told}
use Rattle.promises.specs.declared.Told.TheVariants.{Bytes, Place, Of}
use Rattle.refusals.specs.Numbers.{number, answered}
use Rattle.refusals.specs.declared.Refusal.{Refusal}
use Rattle.edit_answer.specs.Share.{Thousandths}
use Rattle.edit_perform.specs.Stops.{Unplanned, Refused, Overlap}
use Rattle.edit_perform.specs.First.{stopped_early}
use Rattle.edit_perform.specs.AtEnd.{Overlapped, Performs, PerformsWith, early, long}
use Rattle.edit_perform.specs.Ending.{ending, edit_ending, found_ending}
use Rattle.edit_perform.specs.declared.Ended.{Ended}
use Rattle.edit_answer.specs.AtEnd.{unless, unless_refused, unless_done, unless_overlap, share_ending, pairs_ending, ToAnswer}
use Rattle.edit_algo.specs.Numbers.{element_of, share_of, TellsLength, TellsPlace, TellsShare, LengthTold, PlaceTold, ShareTold}

-- ── Refused, or at the end of the run ───────────────────────────────────────────────────────────────────────

-- where what is performed is refused, the answer is that refusal
unless_same : {A : Type 0} (p : Result Ended Unplanned) (a : basics.Answer A) → ((e : Refusal) → p ≡ Err (Refused e) → a ≡ refused (number e)) → unless p a ≡ a
unless_same (Err (Refused e)) a f = unless_refused refl a ∙ sym (f e refl)
unless_same (Err (Overlap o)) a f = unless_overlap {j = o.earlier} {k = o.later} refl a
unless_same (Ok d) a f = unless_done refl a

-- a job is refused where the run is
job_refused : (h : Choices) (j : Job) (b : List ℕ) (room k : ℕ) → (ending h b ≡ refused k) × (account h b ≡ refused k) → reached h j b room ≡ refused k
unfolding reached applied recounted paired ◌>>=◌
job_refused h Edit b room k e = rw (edit_ending h b, e.0) refl
job_refused h (Find n) b room k e = rw (found_ending h b n, e.0) refl
job_refused h Account b room k e = rw e.1 refl
job_refused h Share b room k e = rw (share_ending h b, e.0) refl
job_refused h Kept b room k e = rw (pairs_ending h b, e.0) refl

module _ {h : Choices} {work : List (List ℕ)} {b t s changes rows notes changed marks : List ℕ} {p : Result Ended Unplanned} where
  -- what is performed and then answered is the job's answer with these work slices
  pub job_performed : PerformsWith h work b t s changes rows notes changed marks p → (j : Job) (room : ℕ) → unless p (reached h j b room) ≡ served h j (lengths needed work) b room
  unfolding served
  job_performed (early e q i) j room = unless_refused i _ ∙ sym (stopped_early h (lengths needed work) (reached h j b room) (number e) q)
  job_performed (long c e P) j room = unless_same p (reached h j b room) (λ f i. job_refused h j b room (number f) (P.refuses f i)) ∙ sym (with_long h (lengths needed work) (reached h j b room) c e)

  -- at the end of the run no work slice is too short
  done_long : PerformsWith h work b t s changes rows notes changed marks p → (d : Ended) → p ≡ Ok d → (too_short (lengths needed work) ≡ false) × Performs h b t s changes rows notes changed marks p
  done_long (early k i q) d e = absurd (let z : ◌≡◌ {A = ℕ} 0 1 = cc in omega arith)
  done_long (long c i P) d e = (i, P)

  overlap_known : PerformsWith h work b t s changes rows notes changed marks p → (j k : ℕ) → p ≡ Err (Overlap (record { earlier = j; later = k })) → Overlapped h b j k
  overlap_known (early n i q) j k e = absurd (let z : ◌≡◌ {A = ℕ} 0 1 = cc in omega arith)
  overlap_known (long c i P) j k e = P.overlaps j k e

  -- so that what the run left is there
  pub to_answer : PerformsWith h work b t s changes rows notes changed marks p → (starts : List ℕ) → (too_short (lengths needed work) ≡ false → 4096 ≤ length starts) → ToAnswer h b t s changes marks rows notes changed starts p
  to_answer P starts q = record { overlaps = λ j k e. overlap_known P j k e; recounts = λ d e. (done_long P d e).1.recounts d e; ends = λ d e. (done_long P d e).1.ends d e; tells = λ d e. (done_long P d e).1.tells d e; marked = λ d e. (done_long P d e).1.marked d e; room = λ d e. q (done_long P d e).0 }

-- ── Cleared ─────────────────────────────────────────────────────────────────────────────────────────────────

-- what is told, and then cleared, is what is promised
pub serves_cleared : (h : Choices) (j : Job) (batch held holds : List ℕ) (work mid left : List (List ℕ)) (r : Result Told Refusal) {want : basics.Answer (Told × List ℕ)} → want ≡ served h j (lengths needed work) batch (length held) → Tells want held r holds
    → left ≡ zeroed mid → zeroed mid ≡ zeroed work → Serves h j batch held work r holds left
serves_cleared h j batch held holds work mid left r e a z s = record { told = rw e at a; zeros = z ∙ s }

-- ── What is told of a job ───────────────────────────────────────────────────────────────────────────────────

module _ {told : Result Told Refusal} where
  -- a refusal is told as it is
  refusal_told : {f : Refusal} → told ≡ Err f → (x : basics.Answer Told) → answered told ≡ x → refused (number f) ≡ x
  unfolding answered
  refusal_told e x h = sym (ap answered e) ∙ h

  -- and so is what is given
  given_told : {t v : Told} → told ≡ Ok t → t ≡ v → (x : basics.Answer Told) → answered told ≡ x → gives v ≡ x
  unfolding answered
  given_told e i x h = sym (ap answered (e ∙ ap Ok i)) ∙ h

  pub length_refused : {f : Refusal} → told ≡ Err f → TellsLength told (Err f)
  unfolding of_length answered
  length_refused {f} e (refused k) h = let y : ◌≡◌ {A = basics.Answer Told} (refused (number f)) (refused k) = refusal_told e (refused k) h in let same : number f ≡ k = cc in ap refused same
  length_refused {f} e (gives k) h = refused_gives (refusal_told e (gives (Bytes k)) h)

  pub length_told : {t : Told} {n : ℕ} → told ≡ Ok t → t ≡ Bytes n → TellsLength told (Ok n)
  unfolding of_length answered
  length_told e i (refused k) h = refused_gives (sym (given_told e i (refused k) h))
  length_told {n = n} e i (gives k) h = let y : gives (Bytes n) ≡ gives (Bytes k) = given_told e i (gives (Bytes k)) h in let same : n ≡ k = cc in ap gives same

  -- no edit finds an element or tells a share
  pub no_place : {t : Told} {o : prelude.Option ℕ} → told ≡ Ok t → t ≡ Place o → LengthTold told → ⊥
  unfolding of_length
  no_place e i (refused k, h) = refused_gives (sym (given_told e i (refused k) h))
  no_place {o = o} e i (gives k, h) = let y : gives (Place o) ≡ gives (Bytes k) = given_told e i (gives (Bytes k)) h in absurd (let z : ◌≡◌ {A = ℕ} 0 1 = cc in omega arith)

  pub no_share : {t : Told} {q m : ℕ} → told ≡ Ok t → t ≡ Of q m → LengthTold told → ⊥
  unfolding of_length
  no_share e i (refused k, h) = refused_gives (sym (given_told e i (refused k) h))
  no_share {q = q} {m} e i (gives k, h) = let y : gives (Of q m) ≡ gives (Bytes k) = given_told e i (gives (Bytes k)) h in absurd (let z : ◌≡◌ {A = ℕ} 0 1 = cc in omega arith)

  pub place_refused : {f : Refusal} → told ≡ Err f → TellsPlace told (Err f)
  unfolding of_place element_of
  place_refused {f} e (refused k) h = let y : ◌≡◌ {A = basics.Answer Told} (refused (number f)) (refused k) = refusal_told e (refused k) h in let same : number f ≡ k = cc in ap refused same
  place_refused {f} e (gives o) h = refused_gives (refusal_told e (gives (place o)) h)

  -- who finds writes no bytes and tells no share
  pub no_bytes : {t : Told} {n : ℕ} → told ≡ Ok t → t ≡ Bytes n → PlaceTold told → ⊥
  unfolding of_place place
  no_bytes e i (refused k, h) = refused_gives (sym (given_told e i (refused k) h))
  no_bytes {n = n} e i (gives none, h) = let y : gives (Bytes n) ≡ gives (Place None) = given_told e i (gives (Place None)) h in absurd (let z : ◌≡◌ {A = ℕ} 0 1 = cc in omega arith)
  no_bytes {n = n} e i (gives (some k), h) = let y : gives (Bytes n) ≡ gives (Place (Some k)) = given_told e i (gives (Place (Some k))) h in absurd (let z : ◌≡◌ {A = ℕ} 0 1 = cc in omega arith)

  pub no_parts : {t : Told} {q m : ℕ} → told ≡ Ok t → t ≡ Of q m → PlaceTold told → ⊥
  unfolding of_place place
  no_parts e i (refused k, h) = refused_gives (sym (given_told e i (refused k) h))
  no_parts {q = q} {m} e i (gives none, h) = let y : gives (Of q m) ≡ gives (Place None) = given_told e i (gives (Place None)) h in absurd (let z : ◌≡◌ {A = ℕ} 0 1 = cc in omega arith)
  no_parts {q = q} {m} e i (gives (some k), h) = let y : gives (Of q m) ≡ gives (Place (Some k)) = given_told e i (gives (Place (Some k))) h in absurd (let z : ◌≡◌ {A = ℕ} 0 1 = cc in omega arith)

  pub place_told : {t : Told} {o : prelude.Option ℕ} → told ≡ Ok t → t ≡ Place o → TellsPlace told (Ok o)
  unfolding of_place place element_of
  place_told e i (refused k) h = refused_gives (sym (given_told e i (refused k) h))
  place_told {o = o} e i (gives none) h =
      let y : gives (Place o) ≡ gives (Place None) = given_told e i (gives (Place None)) h in
      let same : o ≡ None = cc in
      rw same refl
  place_told {o = o} e i (gives (some k)) h =
      let y : gives (Place o) ≡ gives (Place (Some k)) = given_told e i (gives (Place (Some k))) h in
      let same : o ≡ Some k = cc in
      rw same refl

  pub share_refused : {f : Refusal} → told ≡ Err f → TellsShare told (Err f)
  unfolding of_share share_of
  share_refused {f} e (refused k) h = let y : ◌≡◌ {A = basics.Answer Told} (refused (number f)) (refused k) = refusal_told e (refused k) h in let same : number f ≡ k = cc in ap refused same
  share_refused {f} e (gives s) h = refused_gives (refusal_told e (gives (Of s.0 s.1)) h)

  -- a share is no length, and no place
  pub share_no_bytes : {t : Told} {n : ℕ} → told ≡ Ok t → t ≡ Bytes n → ShareTold told → ⊥
  unfolding of_share
  share_no_bytes e i (refused k, h) = refused_gives (sym (given_told e i (refused k) h))
  share_no_bytes {n = n} e i (gives s, h) = let y : gives (Bytes n) ≡ gives (Of s.0 s.1) = given_told e i (gives (Of s.0 s.1)) h in absurd (let z : ◌≡◌ {A = ℕ} 0 1 = cc in omega arith)

  pub share_no_place : {t : Told} {o : prelude.Option ℕ} → told ≡ Ok t → t ≡ Place o → ShareTold told → ⊥
  unfolding of_share
  share_no_place e i (refused k, h) = refused_gives (sym (given_told e i (refused k) h))
  share_no_place {o = o} e i (gives s, h) = let y : gives (Place o) ≡ gives (Of s.0 s.1) = given_told e i (gives (Of s.0 s.1)) h in absurd (let z : ◌≡◌ {A = ℕ} 0 1 = cc in omega arith)

  pub share_told : {t : Told} {q m : ℕ} → told ≡ Ok t → t ≡ Of q m → TellsShare told (Ok (record { quotient = q; remainder = m }))
  unfolding of_share share_of
  share_told e i (refused k) h = refused_gives (sym (given_told e i (refused k) h))
  share_told {q = q} {m} e i (gives s) h =
      let z : gives (Of q m) ≡ gives (Of s.0 s.1) = given_told e i (gives (Of s.0 s.1)) h in
      let x : q ≡ s.0 = cc in
      let y : m ≡ s.1 = cc in
      rw (x, y) refl

-- what `serve` answers to each job tells such an answer
module _ (h : Choices) {b held holds : List ℕ} {work left : List (List ℕ)} {told : Result Told Refusal} where
  pub edit_length : Serves h Edit b held work told holds left → LengthTold told
  edit_length s = let (a, e, k) = serves_edits h s in (a, e)

  pub account_length : Serves h Account b held work told holds left → LengthTold told
  account_length s = let (a, e, k) = serves_accounts h s in (a, e)

  pub kept_length : Serves h Kept b held work told holds left → LengthTold told
  kept_length s = let (a, e, k) = serves_keeps h s in (a, e)

  pub find_place : {n : ℕ} → Serves h (Find n) b held work told holds left → PlaceTold told
  find_place s = let (a, e, k) = serves_finds h s in (a, e)

  pub share_parts : Serves h Share b held work told holds left → ShareTold told
  share_parts s = let (a, e, k) = serves_shares h s in (a, e)

-- what is told of an edit keeps the promise of `edit`
pub edits_told : (h : Choices) (b held holds : List ℕ) (work left : List (List ℕ)) (told : Result Told Refusal) (r : Result ℕ Refusal) → Serves h Edit b held work told holds left → TellsLength told r → Edits h b held work (answered r) holds left
edits_told h b held holds work left told r s f = let (a, e, k) = serves_edits h s in subst (λ (x : basics.Answer ℕ). Edits h b held work x holds left) (sym (f a e)) k

-- and of an element that of `find_element`
pub finds_told : (h : Choices) (b held holds : List ℕ) (n : ℕ) (work left : List (List ℕ)) (told : Result Told Refusal) (r : Result (prelude.Option ℕ) Refusal) → Serves h (Find n) b held work told holds left → TellsPlace told r → Finds h b n work (element_of r) left
finds_told h b held holds n work left told r s f = let (a, e, k) = serves_finds h s in subst (λ (x : basics.Answer (Option ℕ)). Finds h b n work x left) (sym (f a e)) k

-- what is told of an account keeps the promise of `account`
pub accounts_told : (h : Choices) (b held holds : List ℕ) (work left : List (List ℕ)) (told : Result Told Refusal) (r : Result ℕ Refusal) → Serves h Account b held work told holds left → TellsLength told r → Accounts h b held work (answered r) holds left
accounts_told h b held holds work left told r s f = let (a, e, k) = serves_accounts h s in subst (λ (x : basics.Answer ℕ). Accounts h b held work x holds left) (sym (f a e)) k

-- what is told of a share keeps the promise of `share`
pub shares_told : (h : Choices) (b held holds : List ℕ) (work left : List (List ℕ)) (told : Result Told Refusal) (r : Result Thousandths Refusal) → Serves h Share b held work told holds left → TellsShare told r → Shares h b work (share_of r) left
shares_told h b held holds work left told r s f = let (a, e, k) = serves_shares h s in subst (λ (x : basics.Answer (ℕ × ℕ)). Shares h b work x left) (sym (f a e)) k

-- and of the pairs that of `kept`
pub keeps_told : (h : Choices) (b held holds : List ℕ) (work left : List (List ℕ)) (told : Result Told Refusal) (r : Result ℕ Refusal) → Serves h Kept b held work told holds left → TellsLength told r → Keeps h b held work (answered r) holds left
keeps_told h b held holds work left told r s f = let (a, e, k) = serves_keeps h s in subst (λ (x : basics.Answer ℕ). Keeps h b held work x holds left) (sym (f a e)) k
