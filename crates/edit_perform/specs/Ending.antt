-- The way from a batch to the end of its run, in the definition's words.
-- Assumes nothing.
use Rattle.std.specs.Prelude.{◌≡◌, refl, List, ℕ}
use Rattle.std.proofs.Math.Option.{Option}
use Rattle.definition.specs.Basics.{Answer, refused, gives, ◌>>=◌}
use Rattle.definition.specs.Choices.{Choices}
use Rattle.definition.specs.Refusals.{Accepted, accepted}
use Rattle.definition.specs.Running.{World}
use Rattle.definition.specs.Finishing.{Result, result}
use Rattle.definition.specs.FindElement.{find_in}
use Rattle.definition.specs.Answers.{Plan, plan, ran, edit}
use Rattle.promises.specs.Promises.{found}

-- an accepted batch, its plan, and what its steps leave
pub record End : Type 0 where
  pub batch : Accepted
  pub planned : Plan
  pub world : World

-- what a batch comes to, or its refusal out of 2 to 12 and 16
unfoldable pub ending : Choices → List ℕ → Answer End
ending h b = do
  a ← accepted b
  p ← plan h a
  w ← ran a p
  gives (record { batch = a; planned = p; world = w })

-- the result of it
unfoldable pub result_at : End → Result
result_at e = result e.planned.changes e.planned.climbs e.world

pub edit_ending : (h : Choices) (b : List ℕ) → edit h b ≡ (ending h b >>= λ e. gives (result_at e))
unfolding edit ending result_at ◌>>=◌
edit_ending h b = go (accepted b)
  where
    ended : Accepted → Plan → World → Answer Result
    ended a p w = gives (result p.changes p.climbs w)

    last : (a : Accepted) (p : Plan) (o : Answer World) → (o >>= λ w. ended a p w) ≡ ((o >>= λ w. gives (record { batch = a; planned = p; world = w })) >>= λ e. gives (result_at e))
    last a p (refused n) = refl
    last a p (gives w) = refl

    mid : (a : Accepted) (o : Answer Plan)
        → (o >>= λ p. ran a p >>= λ w. ended a p w) ≡ ((o >>= λ p. ran a p >>= λ w. gives (record { batch = a; planned = p; world = w })) >>= λ e. gives (result_at e))
    mid a (refused n) = refl
    mid a (gives p) = last a p (ran a p)

    go : (o : Answer Accepted)
        → (o >>= λ a. plan h a >>= λ p. ran a p >>= λ w. ended a p w) ≡ ((o >>= λ a. plan h a >>= λ p. ran a p >>= λ w. gives (record { batch = a; planned = p; world = w })) >>= λ e. gives (result_at e))
    go (refused n) = refl
    go (gives a) = mid a (plan h a)

-- the element of it that is asked for
unfoldable pub found_at : ℕ → End → Option ℕ
found_at n e = find_in e.batch.table e.world n

pub found_ending : (h : Choices) (b : List ℕ) (n : ℕ) → found h b n ≡ (ending h b >>= λ e. gives (found_at n e))
unfolding found ending found_at ◌>>=◌
found_ending h b n = go (accepted b)
  where
    ended : Accepted → World → Answer (Option ℕ)
    ended a w = gives (find_in a.table w n)

    at : End → Answer (Option ℕ)
    at e = gives (found_at n e)

    last : (a : Accepted) (p : Plan) (o : Answer World) → (o >>= λ w. ended a w) ≡ ((o >>= λ w. gives (record { batch = a; planned = p; world = w })) >>= at)
    last a p (refused k) = refl
    last a p (gives w) = refl

    mid : (a : Accepted) (o : Answer Plan) → (o >>= λ p. ran a p >>= λ w. ended a w) ≡ ((o >>= λ p. ran a p >>= λ w. gives (record { batch = a; planned = p; world = w })) >>= at)
    mid a (refused k) = refl
    mid a (gives p) = last a p (ran a p)

    go : (o : Answer Accepted) → (o >>= λ a. plan h a >>= λ p. ran a p >>= λ w. ended a w) ≡ ((o >>= λ a. plan h a >>= λ p. ran a p >>= λ w. gives (record { batch = a; planned = p; world = w })) >>= at)
    go (refused k) = refl
    go (gives a) = mid a (plan h a)
