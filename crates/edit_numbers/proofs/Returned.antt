-- What the exported calls return, as one number, and what they promise.
-- Assumes nothing.
use Rattle.std.specs.Prelude.{◌≡◌, List, ℤ, length, Result}
use Rattle.std.proofs.Math.Path.{refl, ap}
use Rattle.std.proofs.Common.{◌∙◌, arith}
use Rattle.std.proofs.Math.Option.{Option, none, some}
use Prim.Native.Nat.{ℕ, ◌≤◌, ◌<◌}
use mir.Syntax.{w64}
use mir.Val.{to_z, of_z}
use Rattle.definition.specs.Basics.{Answer, refused, gives, ◌>>=◌, any, among}
use Rattle.definition.specs.Choices.{Choices}
use Rattle.definition.specs.Answers.{edited}
use Rattle.definition.specs.FindElement.{find_element}
use Rattle.definition.specs.Account.{accounted}
use Rattle.share_laws.specs.Share.{shared}
use Rattle.promises.specs.Slices.{needed, lengths}
use Rattle.promises.specs.Keeping.{kept}
use Rattle.promises.specs.Serving.{place, of_length, of_place, of_share, Serves, serves_edits, serves_finds, serves_accounts, serves_shares, serves_keeps}
use Rattle.promises.specs.declared.Job.TheVariants.{Edit, Find, Account, Share, Kept}
use Rattle.promises.specs.declared.Told.{Told}
use Rattle.refusals.specs.Numbers.{answered}
use Rattle.refusals.specs.declared.Refusal.{Refusal}
use Rattle.promises_read.specs.Refused.{By, edit_numbers, find_numbers, account_numbers, by_number, by_more, edited_by, found_by, accounted_by, shared_by, kept_by}
use Rattle.promises_read.specs.Pairs.{pairs_short}
use Rattle.edit_numbers.specs.Bounded.{edited_short, found_short, accounted_short, shared_few}
use Rattle.edit_numbers.specs.Told.{number_of, Small, number_read, Near, found_number}
use Rattle.edit_numbers.specs.Returned.{returned, returned_element, Returns, ReturnsElement, ReturnsAccount, ReturnsKept, returned_share, ReturnsShare}

-- ── The promises ────────────────────────────────────────────────────────────────────────────────────────────

-- ── From what is served ─────────────────────────────────────────────────────────────────────────────────────

-- what tells the length of a text is small, if the text is and its refusal is
bytes_small : (o : Answer (List ℕ)) → By edit_numbers o → ((bytes : List ℕ) → o ≡ gives bytes → length bytes ≤ 134217728) → Small (of_length (o >>= λ bytes. gives (length bytes)))
unfolding Small of_length ◌>>=◌ any
bytes_small (refused n) h k = omega (arith, (by_number {A = List ℕ} edit_numbers 1 18 n (refused n) refl h refl).1)
bytes_small (gives bytes) h k = k bytes refl

-- and its number is what is returned
bytes_returned : (o : Answer (List ℕ)) → number_of (of_length (o >>= λ bytes. gives (length bytes))) ≡ returned o
unfolding number_of of_length returned ◌>>=◌
bytes_returned (refused n) = refl
bytes_returned (gives bytes) = refl

module _ {h : Choices} {b held holds : List ℕ} {work left : List (List ℕ)} {r : Result Told Refusal} (s : Serves h Edit b held work r holds left) where
  abbrev x : Answer (List ℕ)
  x = edited h (lengths needed work) b (length held)

  length_told : answered r ≡ of_length (x >>= λ bytes. gives (length bytes))
  length_told = let (a, e, k) = serves_edits h s in e ∙ ap of_length k.answer

  -- what an edit tells is small
  pub edit_small : Small (answered r)
  edit_small = rw length_told (bytes_small x (edited_by h (lengths needed work) b (length held)) (λ bytes e. omega (arith, edited_short h (lengths needed work) b bytes (length held) e)))

  -- and its number is what is promised
  pub edit_returned : (z : ℤ) → z ≡ number_of (answered r) → Returns h b held work (to_z w64 (of_z w64 z)) holds left
  edit_returned z q =
      let (a, e, k) = serves_edits h s in
      record { answer = ap (λ (y : ℤ). to_z w64 (of_z w64 y)) q ∙ (number_read (answered r) edit_small ∙ (ap number_of length_told ∙ bytes_returned x)); result = k.result; zeros = k.zeros; inserts = k.inserts }

module _ {h : Choices} {b held holds : List ℕ} {work left : List (List ℕ)} {r : Result Told Refusal} (s : Serves h Account b held work r holds left) where
  abbrev text : Answer (List ℕ)
  text = accounted h (lengths needed work) b (length held)

  text_told : answered r ≡ of_length (text >>= λ bytes. gives (length bytes))
  text_told = let (a, e, k) = serves_accounts h s in e ∙ ap of_length k.answer

  -- what an account tells is small
  pub account_small : Small (answered r)
  unfolding among any
  account_small = rw text_told (bytes_small text (by_more account_numbers edit_numbers text refl (accounted_by h (lengths needed work) b (length held))) (λ bytes e. omega (arith, accounted_short h (lengths needed work) b bytes (length held) e)))

  -- and its number is what is promised
  pub account_returned : (z : ℤ) → z ≡ number_of (answered r) → ReturnsAccount h b held work (to_z w64 (of_z w64 z)) holds left
  account_returned z q =
      let (a, e, k) = serves_accounts h s in
      record { answer = ap (λ (y : ℤ). to_z w64 (of_z w64 y)) q ∙ (number_read (answered r) account_small ∙ (ap number_of text_told ∙ bytes_returned text)); result = k.result; zeros = k.zeros }

module _ {h : Choices} {b held holds : List ℕ} {work left : List (List ℕ)} {r : Result Told Refusal} (s : Serves h Kept b held work r holds left) where
  abbrev pairs : Answer (List ℕ)
  pairs = kept h (lengths needed work) b (length held)

  pairs_told : answered r ≡ of_length (pairs >>= λ bytes. gives (length bytes))
  pairs_told = let (a, e, k) = serves_keeps h s in e ∙ ap of_length k.answer

  -- what is told of pairs is small
  pub kept_small : Small (answered r)
  kept_small = rw pairs_told (bytes_small pairs (kept_by h (lengths needed work) b (length held)) (λ bytes e. omega (arith, pairs_short h (lengths needed work) b bytes (length held) e)))

  -- and its number is what is promised
  pub kept_returned : (z : ℤ) → z ≡ number_of (answered r) → ReturnsKept h b held work (to_z w64 (of_z w64 z)) holds left
  kept_returned z q =
      let (a, e, k) = serves_keeps h s in
      record { answer = ap (λ (y : ℤ). to_z w64 (of_z w64 y)) q ∙ (number_read (answered r) kept_small ∙ (ap number_of pairs_told ∙ bytes_returned pairs)); result = k.result; zeros = k.zeros }

module _ {h : Choices} {b held holds : List ℕ} {n : ℕ} {work left : List (List ℕ)} {r : Result Told Refusal} (s : Serves h (Find n) b held work r holds left) where
  abbrev y : Answer (Option ℕ)
  y = find_element h (lengths needed work) b n

  place_told : answered r ≡ of_place y
  place_told = let (a, e, k) = serves_finds h s in e ∙ ap of_place k.element

  -- what is told of an element is small
  pub find_small : Small (answered r)
  unfolding Small of_place place any Near
  find_small = rw place_told (go y (λ m. by_number find_numbers 1 18 m y refl (found_by h (lengths needed work) b n)) (found_short h (lengths needed work) b n))
    where
      go : (o : Answer (Option ℕ)) → ((m : ℕ) → o ≡ refused m → (1 ≤ m) × (m ≤ 18)) → ((e : ℕ) → o ≡ gives (some e) → e < 4096) → Small (of_place o)
      go (refused m) h k = omega (arith, (h m refl).1)
      go (gives none) h k = tt
      go (gives (some e)) h k = omega (arith, k e refl)

  -- and its number is what is promised
  pub find_returned : (z : ℤ) → z ≡ number_of (answered r) → ReturnsElement h b n work (to_z w64 (of_z w64 z)) left
  unfolding number_of of_place place returned_element found_number
  find_returned z q =
      let (a, e, k) = serves_finds h s in
      record { element = ap (λ (y : ℤ). to_z w64 (of_z w64 y)) q ∙ (number_read (answered r) find_small ∙ (ap number_of place_told ∙ go y)); zeros = k.zeros; inserts = k.inserts }
    where
      go : (o : Answer (Option ℕ)) → number_of (of_place o) ≡ returned_element o
      go (refused m) = refl
      go (gives none) = refl
      go (gives (some e)) = refl

module _ {h : Choices} {b held holds : List ℕ} {work left : List (List ℕ)} {r : Result Told Refusal} (s : Serves h Share b held work r holds left) where
  abbrev part : Answer (ℕ × ℕ)
  part = shared h (lengths needed work) b

  part_told : answered r ≡ of_share part
  part_told = let (a, e, k) = serves_shares h s in e ∙ ap of_share k.share

  -- what is told of a share is small
  pub share_fits : Small (answered r)
  unfolding Small of_share any
  share_fits = rw part_told (go part (λ m. by_number find_numbers 1 18 m part refl (shared_by h (lengths needed work) b)) (shared_few h (lengths needed work) b))
    where
      go : (o : Answer (ℕ × ℕ)) → ((m : ℕ) → o ≡ refused m → (1 ≤ m) × (m ≤ 18)) → ((q : ℕ × ℕ) → o ≡ gives q → (q.0 ≤ 1000) × (q.1 < 65536)) → Small (of_share o)
      go (refused m) h k = omega (arith, (h m refl).1)
      go (gives q) h k = k q refl

  -- and its number is what is promised
  pub share_returned : (z : ℤ) → z ≡ number_of (answered r) → ReturnsShare h b work (to_z w64 (of_z w64 z)) left
  unfolding number_of of_share returned_share
  share_returned z q =
      let (a, e, k) = serves_shares h s in
      record { share = ap (λ (y : ℤ). to_z w64 (of_z w64 y)) q ∙ (number_read (answered r) share_fits ∙ (ap number_of part_told ∙ go part)); zeros = k.zeros }
    where
      go : (o : Answer (ℕ × ℕ)) → number_of (of_share o) ≡ returned_share o
      go (refused m) = refl
      go (gives q) = refl
