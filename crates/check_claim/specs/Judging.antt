-- What the parts of the checker answer: refusals by lengths, both trees read, claims that name no element, the clauses.
-- Assumes nothing.
use Rattle.std.specs.Prelude.{◌≡◌, Result, Ok, Err, Bool, true, false, cond, not, ◌||◌, ◌⊎◌, ℕ, ◌*◌, ◌≤◌, leb, ltb, eqb, length, replicate}
use mathlib.Core.List.{List, ◌++◌, zip}
use Rattle.definition.specs.Basics.{Answer, gives, refused, ◌>>=◌, refuse, any}
use Rattle.check_model.specs.Clauses.{fresh, partnered, marked, judged}
use Rattle.check_model.specs.Table.{Sound}
use Rattle.check_table.specs.Walk.{Reads}
use Rattle.check_claim.specs.declared.Verdict.{Verdict}
use Rattle.check_claim.specs.declared.Verdict.TheVariants.{Accepted, Rejected}
use Rattle.refusals.specs.Numbers.{number}
use Rattle.refusals.specs.declared.Refusal.{Refusal}

-- the refusal's number, or whether the output is accepted
unfoldable pub answer_of : Result Verdict Refusal → Answer Bool
answer_of (Err r) = refused (number r)
answer_of (Ok Accepted) = gives true
answer_of (Ok Rejected) = gives false

-- 3, of a tree whose lists have these lengths
unfoldable pub big_sizes : ℕ → ℕ → ℕ → Bool
big_sizes kinds measures text = ltb 4096 kinds || ltb 4096 measures || ltb 16384 text

-- 3 and 4, of lists of these lengths; 0 for neither
unfoldable pub sizes_refusal : ℕ → ℕ → ℕ → ℕ → ℕ → ℕ → ℕ → ℕ → ℕ
sizes_refusal k m t k' m' t' olds news = cond (big_sizes k m t || big_sizes k' m' t') 3 (cond (not (eqb k m) || not (eqb k' m') || not (eqb olds news)) 4 0)

-- both trees are read, or one is refused
pub record ReadsBoth (es : List (ℕ × ℕ)) (bytes : ℕ) (es' : List (ℕ × ℕ)) (bytes' : ℕ) (r : Bool) (old new : List ℕ) : Type 0 where
  pub yes : r ≡ true → Reads es bytes true old × Reads es' bytes' true new
  pub no : r ≡ false → ((w : List ℕ) × Reads es bytes false w) ⊎ ((w : List ℕ) × Reads es bytes true old × Reads es' bytes' false w)

-- the words of n elements of a tree are there, and sound
pub record Telling (table : List ℕ) (bytes n : ℕ) : Type 0 where
  pub few : n ≤ 4096
  pub long : 4 * n ≤ length table
  pub sound : Sound n bytes table

-- 19, of lists that name old and new elements, of which there are o and n
unfoldable pub naming : ℕ → ℕ → List ℕ → List ℕ → List ℕ → Bool
naming o n olds news changed = any (leb o) olds || any (leb n) (news ++ changed)

-- partners and marks are written, unless a new element is paired twice
pub record WritesClaims (P : List (ℕ × ℕ)) (changed : List ℕ) (m m' : ℕ) (r : Bool) (w c : List ℕ) : Type 0 where
  pub verdict : r ≡ fresh (replicate m 0) P
  pub partners : r ≡ true → w ≡ partnered (replicate m 0) P
  pub marks : c ≡ marked (replicate m' 0) changed

-- 19, then whether all clauses hold
unfoldable pub judging : List ℕ → List ℕ → List ℕ → List ℕ → ℕ → ℕ → ℕ → ℕ → List ℕ → List ℕ → List ℕ → Answer Bool
judging old new text text' o n m m' olds news changed = refuse 19 (naming o n olds news changed) >>= λ _. gives (judged old new text text' n m m' (zip olds news) changed)
