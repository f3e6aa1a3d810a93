-- One promise for every job of `serve`: refusals 17, 18 and 1, what is answered, and that work slices end as zeros. The promises of the public calls follow from it.
-- Assumes nothing.
use Rattle.std.specs.Prelude.{None, Some}
use Rattle.std.specs.Prelude.{◌≡◌, refl, Bool, true, false, List, [], ℕ, length, Result}
use Rattle.std.proofs.Common.{ap, ◌∙◌}
use Rattle.std.proofs.Math.Option.{Option, none, some}
use Rattle.definition.specs.Basics.{Answer, gives, refused, ◌>>=◌, refuse}
use Rattle.definition.specs.Choices.{Choices, chosen}
use Rattle.definition.specs.Answers.{edited, with_work, with_choices, too_short}
use Rattle.definition.specs.FindElement.{find_element}
use Rattle.definition_laws.specs.Performed.{inserts_few}
use Rattle.definition.specs.Account.{accounted}
use Rattle.share_laws.specs.Share.{share, shared}
use Rattle.promises.specs.Slices.{needed, lengths, zeroed}
use Rattle.promises.specs.Keeping.{kept, paired}
use Rattle.promises.specs.Promises.{left_in, Edits, Finds, Accounts, Shares, Keeps, applied, found, recounted, wrongly_chosen, with_short}
use Rattle.promises.specs.declared.Job.{Job}
use Rattle.promises.specs.declared.Job.TheVariants.{Edit, Find, Account, Share, Kept}
use Rattle.promises.specs.declared.Told.{Told}
use Rattle.promises.specs.declared.Told.TheVariants.{Bytes, Place, Of}
use Rattle.refusals.specs.Numbers.{answered}
use Rattle.refusals.specs.declared.Refusal.{Refusal}

-- ── What a job answers ──────────────────────────────────────────────────────────────────────────────────────

-- how an element is told that may be found
unfoldable pub place : Option ℕ → Told
place none = Place None
place (some e) = Place (Some e)

-- the edit, the account and the pairs tell how many bytes they write
abbrev pub tell_bytes : List ℕ → Answer (Told × List ℕ)
tell_bytes bytes = gives (Bytes (length bytes), bytes)

-- who finds writes none
abbrev pub tell_place : Option ℕ → Answer (Told × List ℕ)
tell_place e = gives (place e, [])

-- nor does the share
abbrev pub tell_share : ℕ × ℕ → Answer (Told × List ℕ)
tell_share s = gives (Of s.0 s.1, [])

-- what a job answers where none of 17, 18 and 1 refuses: how it is told, and the bytes that it writes
unfoldable pub reached : Choices → Job → List ℕ → ℕ → Answer (Told × List ℕ)
reached h Edit b room = applied h b room >>= tell_bytes
reached h (Find n) b room = found h b n >>= tell_place
reached h Account b room = recounted h b room >>= tell_bytes
reached h Share b room = share h b >>= tell_share
reached h Kept b room = paired h b room >>= tell_bytes

-- refusals 17, 18 and 1 come before every job
unfoldable pub served : Choices → Job → List (ℕ × ℕ) → List ℕ → ℕ → Answer (Told × List ℕ)
served h j work b room = with_choices h work (reached h j b room)

-- how it is told
unfoldable pub outcome : Answer (Told × List ℕ) → Answer Told
outcome (refused k) = refused k
outcome (gives a) = gives a.0

-- what it writes
unfoldable pub written : Answer (Told × List ℕ) → Answer (List ℕ)
written (refused k) = refused k
written (gives a) = gives a.1

-- the outcome and the result slice, which held `held` and holds `holds`, where this is the answer
pub record Tells (want : Answer (Told × List ℕ)) (held : List ℕ) (r : Result Told Refusal) (holds : List ℕ) : Type 0 where
  pub answer : answered r ≡ outcome want
  pub result : holds ≡ left_in held (written want)

-- THE PROMISE of `serve` for each job, from the choices h, the batch b, the result slice and the work slices as they were lent
pub record Serves (h : Choices) (j : Job) (b held : List ℕ) (work : List (List ℕ)) (r : Result Told Refusal) (holds : List ℕ) (left : List (List ℕ)) : Type 0 where
  pub told : Tells (served h j (lengths needed work) b (length held)) held r holds
  -- "Work slices end as zeros."
  pub zeros : left ≡ zeroed work

-- ── The edit ────────────────────────────────────────────────────────────────────────────────────────────────

-- how the number of bytes is told
unfoldable pub of_length : Answer ℕ → Answer Told
of_length (refused k) = refused k
of_length (gives n) = gives (Bytes n)

pub edit_outcome : (x : Answer (List ℕ)) → outcome (x >>= tell_bytes) ≡ of_length (x >>= λ bytes. gives (length bytes))
unfolding outcome of_length ◌>>=◌
edit_outcome (refused k) = refl
edit_outcome (gives bytes) = refl

pub edit_written : (x : Answer (List ℕ)) → written (x >>= tell_bytes) ≡ x
unfolding written ◌>>=◌
edit_written (refused k) = refl
edit_written (gives bytes) = refl

-- ── The element ─────────────────────────────────────────────────────────────────────────────────────────────

-- how a found element is told
unfoldable pub of_place : Answer (Option ℕ) → Answer Told
of_place (refused k) = refused k
of_place (gives e) = gives (place e)

pub find_outcome : (x : Answer (Option ℕ)) → outcome (x >>= tell_place) ≡ of_place x
unfolding outcome of_place ◌>>=◌
find_outcome (refused k) = refl
find_outcome (gives e) = refl

-- nothing is written
pub find_written : (held : List ℕ) (x : Answer (Option ℕ)) → held ≡ left_in held (written (x >>= tell_place))
unfolding written left_in ◌>>=◌
find_written held (refused k) = refl
find_written held (gives e) = refl

-- ── The share ───────────────────────────────────────────────────────────────────────────────────────────────

-- how a share is told
unfoldable pub of_share : Answer (ℕ × ℕ) → Answer Told
of_share (refused k) = refused k
of_share (gives s) = gives (Of s.0 s.1)

pub share_outcome : (x : Answer (ℕ × ℕ)) → outcome (x >>= tell_share) ≡ of_share x
unfolding outcome of_share ◌>>=◌
share_outcome (refused k) = refl
share_outcome (gives s) = refl

pub share_written : (held : List ℕ) (x : Answer (ℕ × ℕ)) → held ≡ left_in held (written (x >>= tell_share))
unfolding written left_in ◌>>=◌
share_written held (refused k) = refl
share_written held (gives s) = refl

-- ── What follows ────────────────────────────────────────────────────────────────────────────────────────────

-- refusals 17, 18 and 1 before what comes of an answer are those before the answer
with_then : {A B : Type 0} (h : Choices) (work : List (ℕ × ℕ)) (x : Answer A) (f : A → Answer B) → with_choices h work (x >>= f) ≡ (with_choices h work x >>= f)
unfolding with_choices with_work refuse ◌>>=◌
with_then h work x f = go (chosen h) refl (too_short work) refl
  where
    go : (o : Answer (Unit {0})) → chosen h ≡ o → (t : Bool) → too_short work ≡ t → with_choices h work (x >>= f) ≡ (with_choices h work x >>= f)
    go (refused k) c t e = rw c refl
    go (gives u) c true e = rw (c, e) refl
    go (gives u) c false e = rw (c, e) refl

-- What `serve` answers to `Edit` tells an answer that keeps the promise of `edit`.
pub serves_edits : (h : Choices) {b held holds : List ℕ} {work left : List (List ℕ)} {r : Result Told Refusal} → Serves h Edit b held work r holds left → (a : Answer ℕ) × (answered r ≡ of_length a) × Edits h b held work a holds left
unfolding served reached edited applied
serves_edits h {b} {held} {holds} {work} {left} {r} s =
    let x = edited h (lengths needed work) b (length held) in
    let same = with_then h (lengths needed work) (applied h b (length held)) tell_bytes in
    (x >>= (λ bytes. gives (length bytes)), s.told.answer ∙ (ap outcome same ∙ edit_outcome x), record { answer = refl; result = s.told.result ∙ ap (left_in held) (ap written same ∙ edit_written x); zeros = s.zeros; inserts = inserts_few h b })

-- What it answers to `Account` tells an answer that keeps the promise of `account`.
pub serves_accounts : (h : Choices) {b held holds : List ℕ} {work left : List (List ℕ)} {r : Result Told Refusal} → Serves h Account b held work r holds left → (a : Answer ℕ) × (answered r ≡ of_length a) × Accounts h b held work a holds left
unfolding served reached accounted recounted
serves_accounts h {b} {held} {holds} {work} {left} {r} s =
    let x = accounted h (lengths needed work) b (length held) in
    let same = with_then h (lengths needed work) (recounted h b (length held)) tell_bytes in
    (x >>= (λ text. gives (length text)), s.told.answer ∙ (ap outcome same ∙ edit_outcome x), record { answer = refl; result = s.told.result ∙ ap (left_in held) (ap written same ∙ edit_written x); zeros = s.zeros })

-- What it answers to `Kept` tells an answer that keeps the promise of `kept`.
pub serves_keeps : (h : Choices) {b held holds : List ℕ} {work left : List (List ℕ)} {r : Result Told Refusal} → Serves h Kept b held work r holds left → (a : Answer ℕ) × (answered r ≡ of_length a) × Keeps h b held work a holds left
unfolding served reached kept
serves_keeps h {b} {held} {holds} {work} {left} {r} s =
    let x = kept h (lengths needed work) b (length held) in
    let same = with_then h (lengths needed work) (paired h b (length held)) tell_bytes in
    (x >>= (λ bytes. gives (length bytes)), s.told.answer ∙ (ap outcome same ∙ edit_outcome x), record { answer = refl; result = s.told.result ∙ ap (left_in held) (ap written same ∙ edit_written x); zeros = s.zeros })

-- What it answers to `Find n` tells an answer that keeps the promise of `find_element`.
pub serves_finds : (h : Choices) {b held holds : List ℕ} {n : ℕ} {work left : List (List ℕ)} {r : Result Told Refusal} → Serves h (Find n) b held work r holds left → (a : Answer (Option ℕ)) × (answered r ≡ of_place a) × Finds h b n work a left
unfolding served reached find_element found
serves_finds h {b} {held} {holds} {n} {work} {left} {r} s =
    let x = find_element h (lengths needed work) b n in
    let same = with_then h (lengths needed work) (found h b n) tell_place in
    (x, s.told.answer ∙ (ap outcome same ∙ find_outcome x), record { element = refl; zeros = s.zeros; inserts = inserts_few h b })

-- What it answers to `Share` tells an answer that keeps the promise of `share`.
pub serves_shares : (h : Choices) {b held holds : List ℕ} {work left : List (List ℕ)} {r : Result Told Refusal} → Serves h Share b held work r holds left → (a : Answer (ℕ × ℕ)) × (answered r ≡ of_share a) × Shares h b work a left
unfolding served reached shared
serves_shares h {b} {held} {holds} {work} {left} {r} s =
    let x = shared h (lengths needed work) b in
    let same = with_then h (lengths needed work) (share h b) tell_share in
    (x, s.told.answer ∙ (ap outcome same ∙ share_outcome x), record { share = refl; zeros = s.zeros })

-- what is told of a refusal: its number, and the result slice holds all that it held
tells_refused : {want : Answer (Told × List ℕ)} {held holds : List ℕ} {r : Result Told Refusal} (k : ℕ) → want ≡ refused k → Tells want held r holds → (answered r ≡ refused k) × (holds ≡ held)
unfolding outcome written left_in
tells_refused k e t = let u = rw e at t in (u.answer, u.result)

-- EVERY JOB IS REFUSED BY 17 FIRST, where an edge rule is neither 0 nor 1, by 18 where the choice of stronger rules first is neither, and then by 1, where a work slice is
-- too short.
pub serves_wrong : {h : Choices} {j : Job} {b held holds : List ℕ} {work left : List (List ℕ)} {r : Result Told Refusal} (k : ℕ) → Serves h j b held work r holds left → chosen h ≡ refused k → (answered r ≡ refused k) × (holds ≡ held)
unfolding served
serves_wrong {h} {j} {b} {held} {holds} {work} k s e = tells_refused k (wrongly_chosen h (lengths needed work) (reached h j b (length held)) k e) s.told

pub serves_short : {h : Choices} {j : Job} {b held holds : List ℕ} {work left : List (List ℕ)} {r : Result Told Refusal} → Serves h j b held work r holds left → chosen h ≡ gives tt → too_short (lengths needed work) ≡ true → (answered r ≡ refused 1) × (holds ≡ held)
unfolding served
serves_short {h} {j} {b} {held} {holds} {work} s e t = tells_refused 1 (with_short h (lengths needed work) (reached h j b (length held)) e t) s.told
