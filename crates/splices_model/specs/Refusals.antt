-- The number of a refusal of a list of splices, and what is answered or refused as the definition has it.
-- Assumes nothing.
use Rattle.std.specs.Prelude.{◌≡◌, refl, ℕ, zero, suc, Result, Ok, Err}
use Rattle.std.proofs.Common.{sym, ap, ◌∙◌}
use Rattle.definition.specs.Basics.{Answer, refused, gives}
use Rattle.splices_model.specs.declared.SpliceRefusal.{SpliceRefusal}
use Rattle.splices_model.specs.declared.SpliceRefusal.TheVariants.{OutOfLimits, NoRoom, NoTree, Unfit, NotApart}

-- the number that docs/WORK.md gives a refusal
abbrev pub number : SpliceRefusal → ℕ
number OutOfLimits = 1
number NoRoom = 2
number NoTree = 3
number Unfit = 4
number NotApart = 5

-- the number of the refusal, 0 where there is none
abbrev pub refusal_in : {A : Type 0} → Result A SpliceRefusal → ℕ
refusal_in (Ok a) = 0
refusal_in (Err r) = number r

-- what a list comes to, as the definition has it
abbrev pub answered : {A : Type 0} → Result A SpliceRefusal → Answer A
answered (Ok a) = gives a
answered (Err r) = refused (number r)

-- ── Two refusals have two numbers ───────────────────────────────────────────────────────────────────────────

abbrev by_number : ℕ → SpliceRefusal
by_number zero = OutOfLimits
by_number (suc zero) = OutOfLimits
by_number (suc (suc zero)) = NoRoom
by_number (suc (suc (suc zero))) = NoTree
by_number (suc (suc (suc (suc zero)))) = Unfit
by_number (suc (suc (suc (suc (suc n))))) = NotApart

back : (r : SpliceRefusal) → by_number (number r) ≡ r
back OutOfLimits = refl
back NoRoom = refl
back NoTree = refl
back Unfit = refl
back NotApart = refl

abbrev result_in : {A : Type 0} → Answer A → Result A SpliceRefusal
result_in (gives a) = Ok a
result_in (refused n) = Err (by_number n)

result_back : {A : Type 0} (r : Result A SpliceRefusal) → result_in (answered r) ≡ r
result_back (Ok a) = refl
result_back (Err r) = ap Err (back r)

-- so the answer tells the result
pub answered_same : {A : Type 0} (r r' : Result A SpliceRefusal) → answered r ≡ answered r' → r ≡ r'
answered_same r r' e = sym (result_back r) ∙ (ap result_in e ∙ result_back r')
