-- DEMAND 1, of every call that keeps its promise. "A batch is only read" needs no statement: the batch is lent as a shared slice, which no call can write.
-- Assumes nothing.
use Rattle.std.specs.Prelude.{◌≡◌, refl, List, [], ◌∷◌, map, ℕ, zero, suc, ◌≤◌, ltb, length, take, drop, replicate}
use Rattle.std.proofs.Common.{sym, ap, ◌∙◌, arith, length-append, length-drop, take_at, drop_at, ltb-false}
use Rattle.std.proofs.Math.Option.{Option}
use Rattle.std.proofs.lemmas.List.{length-replicate}
use Rattle.orders.specs.Lists.{All}
use Rattle.definition.specs.Basics.{Answer, refused, gives, ◌>>=◌, refuse}
use Rattle.definition.specs.Choices.{Choices, chosen}
use Rattle.definition.specs.Finishing.{encoded, fitting}
use Rattle.definition.specs.Answers.{edit, edited, too_short, with_work, with_choices}
use Rattle.definition_laws.specs.Answers.{refused_inj, gives_inj, refused_gives, given, not_wrong}
use Rattle.definition_demand.proofs.Answered.{edited_result}
use Rattle.promises.specs.Slices.{needed, lengths, zeros, zeroed}
use Rattle.promises.specs.Promises.{left_in, Edits, Finds}
use Rattle.promises_read.specs.Refused.{edited_numbered, found_numbered}
use Rattle.promises_read.specs.Demand1.{Cleared, Demand1, Demand1Finds}

-- ── The result slice ────────────────────────────────────────────────────────────────────────────────────────

-- what is written has room
edited_fits : (h : Choices) (work : List (ℕ × ℕ)) (b : List ℕ) (room : ℕ) (out : List ℕ) → edited h work b room ≡ gives out → length out ≤ room
unfolding edited with_choices with_work fitting
edited_fits h work b room out e =
    given (chosen h) _ e λ c i e.
    given (refuse 1 (too_short work)) _ e λ u x e.
    given (edit h b) _ e λ R y e.
    given (fitting room R) _ e λ S z e.
    given (refuse 13 (ltb room (length (encoded R)))) _ z λ v a z.
    omega (arith, ltb-false room (length (encoded R)) (not_wrong 13 _ a), ap (λ x. length (encoded x)) (gives_inj z), ap length (gives_inj e))

-- ── The work slices ─────────────────────────────────────────────────────────────────────────────────────────

zeros_length : (s : List ℕ) → length (zeros s) ≡ length s
unfolding zeros
zeros_length s = length-replicate (length s) 0

zeroed_lengths : (work : List (List ℕ)) → map length (zeroed work) ≡ map length work
unfolding zeroed
zeroed_lengths [] = refl
zeroed_lengths (s ∷ work) = rw zeros_length (ap (λ (l : List ℕ). length s ∷ l) (zeroed_lengths work))

all_zero : (n : ℕ) → All (λ (w : ℕ). w ≡ 0) (replicate n 0)
all_zero zero = tt
all_zero (suc n) = (refl, all_zero n)

zeroed_zeros : (work : List (List ℕ)) → All (All (λ w. w ≡ 0)) (zeroed work)
unfolding zeroed zeros
zeroed_zeros [] = tt
zeroed_zeros (s ∷ work) = (all_zero (length s), zeroed_zeros work)

pub zeroed_cleared : (work left : List (List ℕ)) → left ≡ zeroed work → Cleared work left
zeroed_cleared work left e = record { lengths = ap (map length) e ∙ zeroed_lengths work; zeros = rw e (zeroed_zeros work) }

-- ── The demand ──────────────────────────────────────────────────────────────────────────────────────────────

-- Every call that keeps its promise meets demand 1.
pub demand_1 : (h : Choices) (b held : List ℕ) (work : List (List ℕ)) (r : Answer ℕ) (holds : List ℕ) (left : List (List ℕ)) → Edits h b held work r holds left → Demand1 h b held work r holds left
unfolding left_in ◌>>=◌
demand_1 h b held work r holds left p = go (edited h (lengths needed work) b (length held)) refl p.answer p.result
  where
    go : (want : Answer (List ℕ)) → edited h (lengths needed work) b (length held) ≡ want → r ≡ (want >>= λ bytes. gives (length bytes)) → holds ≡ left_in held want → Demand1 h b held work r holds left
    go (refused m) e a t = record {
      numbered = λ k q. edited_numbered h (lengths needed work) b (length held) k (e ∙ ap {B = Answer (List ℕ)} refused (refused_inj (sym a ∙ q)));
      untouched = λ k q. t;
      finished = λ n q. refused_gives (sym a ∙ q);
      holds_length = ap length t;
      cleared = zeroed_cleared work left p.zeros;
    }
    go (gives out) e a t =
        let (R, y, same) = edited_result h (lengths needed work) b (length held) out e in
        let fits = edited_fits h (lengths needed work) b (length held) out e in
        record {
          numbered = λ k q. refused_gives (sym q ∙ a);
          untouched = λ k q. refused_gives (sym q ∙ a);
          finished = λ n q.
              let long : length out ≡ n = gives_inj (sym a ∙ q) in
              record {
                result = R;
                edits = y;
                size = ap length same ∙ long;
                room = omega arith;
                front = ap (take n) t ∙ (take_at out (drop (length out) held) n long ∙ sym same);
                beyond = ap (drop n) t ∙ (drop_at out (drop (length out) held) n long ∙ ap (λ (k : ℕ). drop k held) long);
              };
          holds_length = ap length t ∙ (length-append out (drop (length out) held) ∙ omega (arith, length-drop (length out) held));
          cleared = zeroed_cleared work left p.zeros;
        }

-- So does every call of `find_element`.
pub demand_1_finds : (h : Choices) (b : List ℕ) (n : ℕ) (work : List (List ℕ)) (r : Answer (Option ℕ)) (left : List (List ℕ)) → Finds h b n work r left → Demand1Finds h b n work r left
demand_1_finds h b n work r left p = record {
  numbered = λ k q. found_numbered h (lengths needed work) b n k (sym p.element ∙ q);
  cleared = zeroed_cleared work left p.zeros;
}

-- ── Nothing is left free ────────────────────────────────────────────────────────────────────────────────────

-- What was lent settles the answer and every slice: two calls that keep the promise agree.
pub edits_settled : (h : Choices) (b held : List ℕ) (work : List (List ℕ)) (r s : Answer ℕ) (holds keeps : List ℕ) (left last : List (List ℕ)) → Edits h b held work r holds left → Edits h b held work s keeps last → (r ≡ s) × (holds ≡ keeps) × (left ≡ last)
edits_settled h b held work r s holds keeps left last p q = (p.answer ∙ sym q.answer, p.result ∙ sym q.result, p.zeros ∙ sym q.zeros)

pub finds_settled : (h : Choices) (b : List ℕ) (n : ℕ) (work : List (List ℕ)) (r s : Answer (Option ℕ)) (left last : List (List ℕ)) → Finds h b n work r left → Finds h b n work s last → (r ≡ s) × (left ≡ last)
finds_settled h b n work r s left last p q = (p.element ∙ sym q.element, p.zeros ∙ sym q.zeros)
