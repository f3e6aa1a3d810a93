-- The outcome, the result slice and the memory of a later call, from its answer.
-- Assumes nothing.
use Rattle.std.specs.Prelude.{◌≡◌, refl, Result, Ok, Err, List, ℕ, length}
use Rattle.std.proofs.Common.{ap}
use Rattle.definition.specs.Basics.{Answer, refused, gives, ◌>>=◌}
use Rattle.definition.specs.Finishing.{encoded}
use Rattle.promises.specs.Promises as promises
use Rattle.refusals.specs.Numbers.{number, answered}
use Rattle.refusals.specs.declared.Refusal.{Refusal}
use Rattle.series_laws.specs.Follow.{Step}
use Rattle.series_laws.specs.Lent.{Lent, left_in, leaves}

-- the bytes of an answer's result
abbrev pub result_bytes : Answer Step → Answer (List ℕ)
result_bytes o = o >>= λ s. gives (encoded s.result)

-- where `want` is the answer: the outcome, the result slice, which held `held` and holds `holds`, and the memory, which was l and is `after`
pub record TellsOn (want : Answer Step) (l : Lent) (held : List ℕ) (r : Result ℕ Refusal) (holds : List ℕ) (after : Lent) : Type 0 where
  -- how many bytes the result has, or the refusal
  pub answer : answered r ≡ (want >>= λ s. gives (length (encoded s.result)))
  -- "The result slice holds the finished answer and beyond it what it held, or on refusal all that it held."
  pub result : holds ≡ promises.left_in held (result_bytes want)
  -- the new tree and the bookmarks that survive, beyond them what was held; refused, all that was held
  pub memory : after ≡ leaves l want

-- refused: everything is as it was
pub tells_refused : {want : Answer Step} {l : Lent} {held : List ℕ} (f : Refusal) → want ≡ refused (number f) → TellsOn want l held (Err f) held l
unfolding answered promises.left_in leaves ◌>>=◌
tells_refused f e = rw e (record { answer = refl; result = refl; memory = refl })

-- accepted
pub tells_gives : {want : Answer Step} {l : Lent} {held holds : List ℕ} {after : Lent} {n : ℕ} (s : Step) → want ≡ gives s → n ≡ length (encoded s.result) → holds ≡ promises.left_in held (gives (encoded s.result)) → after ≡ left_in l s.memory
    → TellsOn want l held (Ok n) holds after
unfolding answered promises.left_in leaves ◌>>=◌
tells_gives s e q r m = rw e (record { answer = ap gives q; result = r; memory = m })
