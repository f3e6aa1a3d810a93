-- The answer and the slices, where no lent slice is too short: just what the definition answers.
-- Assumes nothing.
use Rattle.std.specs.Prelude.{◌≡◌, refl, Bool, true, false, List, [], ◌++◌, ℕ, ◌≤◌, ltb, length, drop}
use Rattle.std.proofs.Common.{ap, ◌∙◌, arith, le-ltb}
use Rattle.std.proofs.Math.Option.{Option}
use Rattle.definition.specs.Basics.{Answer, refused, gives, ◌>>=◌, refuse, any}
use Rattle.definition.specs.Choices.{Choices, chosen}
use Rattle.definition.specs.Finishing.{Result, encoded, fitting}
use Rattle.definition.specs.Answers.{edit, edited, too_short, with_work, with_choices}
use Rattle.definition.specs.FindElement.{find_element}
use Rattle.definition_laws.specs.Limits.{most_bytes}
use Rattle.definition_laws.proofs.Limits.{edit_within, encoded_within}
use Rattle.result_laws.proofs.Worded.{Bytes, edit_worded}
use Rattle.result_laws.specs.Decoded.{decoded}
use Rattle.result_laws.proofs.Encoded.{decoded_encoded}
use Rattle.promises.specs.Slices.{needed, lengths}
use Rattle.promises.specs.Promises.{left_in, Edits, Finds, applied, found, long_edited, long_found}

-- what is lent suffices: the choices are some, each work slice has its length, and the result slice has room for the answer
pub record Lent (h : Choices) (b held : List ℕ) (work : List (List ℕ)) : Type 0 where
  pub chosen : chosen h ≡ gives tt
  pub works : too_short (lengths needed work) ≡ false
  pub room : (R : Result) → edit h b ≡ gives R → length (encoded R) ≤ length held

-- As much room as the longest result needs is room for every answer.
pub lent_most : (h : Choices) (b held : List ℕ) (work : List (List ℕ)) → chosen h ≡ gives tt → too_short (lengths needed work) ≡ false → most_bytes ≤ length held → Lent h b held work
lent_most h b held work c w k = record { chosen = c; works = w; room = λ R e. omega (arith, encoded_within h b R e) }

-- what an answer leaves: its refusal, and all that was held; or the number of its bytes, and these with what was held beyond them
abbrev pub Leaves : Answer Result → List ℕ → Answer ℕ → List ℕ → Type 0
Leaves (refused k) held r holds = (r ≡ refused k) × (holds ≡ held)
Leaves (gives R) held r holds = (r ≡ gives (length (encoded R))) × (holds ≡ encoded R ++ drop (length (encoded R)) held)

edit_leaves : (h : Choices) (b held : List ℕ) (work : List (List ℕ)) (r : Answer ℕ) (holds : List ℕ) (left : List (List ℕ)) → Edits h b held work r holds left → Lent h b held work → Leaves (edit h b) held r holds
unfolding applied fitting refuse left_in ◌>>=◌
edit_leaves h b held work r holds left p l = go (edit h b) refl long
  where
    fit : Result → Answer (List ℕ)
    fit R = fitting (length held) R >>= λ S. gives (encoded S)

    long : edited h (lengths needed work) b (length held) ≡ (edit h b >>= fit)
    long = long_edited h l.chosen work b (length held) l.works

    go : (o : Answer Result) → edit h b ≡ o → edited h (lengths needed work) b (length held) ≡ (o >>= fit) → Leaves o held r holds
    go (refused k) e w = (p.answer ∙ ap (λ x. x >>= λ bytes. gives (length bytes)) w, p.result ∙ ap (left_in held) w)
    go (gives R) e w =
        let z : edited h (lengths needed work) b (length held) ≡ gives (encoded R) = w ∙ rw (le-ltb (length held) (length (encoded R)) (l.room R e)) refl in
        (p.answer ∙ ap (λ x. x >>= λ bytes. gives (length bytes)) z, p.result ∙ ap (left_in held) z)

-- the answer that stands in the slice: a refusal, or the result read there
unfoldable pub answer_in : Answer ℕ → List ℕ → Answer Result
answer_in (refused k) holds = refused k
answer_in (gives n) holds = gives (decoded holds)

-- what is left is read as the answer
leaves_read : (h : Choices) (b held : List ℕ) (r : Answer ℕ) (holds : List ℕ) → Bytes b → Leaves (edit h b) held r holds → answer_in r holds ≡ edit h b
unfolding answer_in
leaves_read h b held r holds y l = go (edit h b) refl l
  where
    go : (o : Answer Result) → edit h b ≡ o → Leaves o held r holds → answer_in r holds ≡ o
    go (refused k) e l = ap (λ x. answer_in x holds) l.0
    go (gives R) e l = ap (λ x. answer_in x holds) l.0 ∙ ap {B = Answer Result} gives (decoded_encoded R holds _ l.1 (edit_within h b R e) (edit_worded h b R y e))

-- the answer to a batch, as it stands in the result slice
pub record Answered (h : Choices) (b held : List ℕ) (r : Answer ℕ) (holds : List ℕ) : Type 0 where
  pub leaves : Leaves (edit h b) held r holds
  pub read : answer_in r holds ≡ edit h b

-- Every call that keeps its promise leaves what the definition answers, and nothing else; and who reads the result slice reads that answer. (A batch that is lent is
-- a slice of `u8`, and so of bytes.)
pub edit_answered : (h : Choices) (b held : List ℕ) (work : List (List ℕ)) (r : Answer ℕ) (holds : List ℕ) (left : List (List ℕ)) → Edits h b held work r holds left → Bytes b → Lent h b held work → Answered h b held r holds
edit_answered h b held work r holds left p y l =
    let z = edit_leaves h b held work r holds left p l in
    record { leaves = z; read = leaves_read h b held r holds y z }

-- Whatever room there is, what stands in the slice is the answer with 13 where the room is too short.
pub edit_fitted : (h : Choices) (b held : List ℕ) (work : List (List ℕ)) (r : Answer ℕ) (holds : List ℕ) (left : List (List ℕ)) → Edits h b held work r holds left → Bytes b → chosen h ≡ gives tt → too_short (lengths needed work) ≡ false
    → answer_in r holds ≡ (edit h b >>= λ R. fitting (length held) R)
unfolding applied fitting refuse left_in answer_in ◌>>=◌
edit_fitted h b held work r holds left p y c w = go (edit h b) refl (long_edited h c work b (length held) w)
  where
    go : (o : Answer Result) → edit h b ≡ o → edited h (lengths needed work) b (length held) ≡ (o >>= λ R. fitting (length held) R >>= λ S. gives (encoded S)) → answer_in r holds ≡ (o >>= λ R. fitting (length held) R)
    go (refused k) e q = ap (λ x. answer_in x holds) (p.answer ∙ ap (λ x. x >>= λ bytes. gives (length bytes)) q)
    go (gives R) e q = fits (ltb (length held) (length (encoded R))) refl
      where
        fits : (t : Bool) → ltb (length held) (length (encoded R)) ≡ t → answer_in r holds ≡ fitting (length held) R
        fits true t =
            let z : edited h (lengths needed work) b (length held) ≡ refused 13 = q ∙ rw t refl in
            ap (λ x. answer_in x holds) (p.answer ∙ ap (λ x. x >>= λ bytes. gives (length bytes)) z) ∙ rw t refl
        fits false t =
            let z : edited h (lengths needed work) b (length held) ≡ gives (encoded R) = q ∙ rw t refl in
            ap (λ x. answer_in x holds) (p.answer ∙ ap (λ x. x >>= λ bytes. gives (length bytes)) z)
            ∙ (ap {B = Answer Result} gives (decoded_encoded R holds _ (p.result ∙ ap (left_in held) z) (edit_within h b R e) (edit_worded h b R y e)) ∙ rw t refl)

-- Every call of `find_element` that keeps its promise finds what the definition finds.
pub find_answered : (h : Choices) (b : List ℕ) (n : ℕ) (work : List (List ℕ)) (r : Answer (Option ℕ)) (left : List (List ℕ)) → Finds h b n work r left → chosen h ≡ gives tt → too_short (lengths needed work) ≡ false → r ≡ find_element h [] b n
unfolding find_element with_choices with_work too_short any refuse found ◌>>=◌
find_answered h b n work r left p c w = p.element ∙ (long_found h c work b n w ∙ rw c refl)
