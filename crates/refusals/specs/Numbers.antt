-- The number of a refusal, and what is answered or refused as the definition has it.
-- Assumes nothing.
use Rattle.std.specs.Prelude.{ℕ, Result, Ok, Err}
use Rattle.definition.specs.Basics.{Answer, refused, gives}
use Rattle.refusals.specs.declared.Refusal.{Refusal}
use Rattle.refusals.specs.declared.Refusal.TheVariants.{ShortWork, ShortBatch, Size, Length, Spelling, Call, Name, Overlap, Unmapped, Endless, Gone, Large, ShortResult, Lists, ShortDestination, Listed, Edge, Stronger, ClaimedName, Bookmarks, Astray, AnotherTree}

-- the number that the documents give a refusal
unfoldable pub number : Refusal → ℕ
number ShortWork = 1
number ShortBatch = 2
number Size = 3
number Length = 4
number Spelling = 5
number Call = 6
number Name = 7
number Overlap = 8
number Unmapped = 9
number Endless = 10
number Gone = 11
number Large = 12
number ShortResult = 13
number Lists = 14
number ShortDestination = 15
number Listed = 16
number Edge = 17
number Stronger = 18
number ClaimedName = 19
number Bookmarks = 20
number Astray = 21
number AnotherTree = 22

-- what a call comes to, as the definition has it
unfoldable pub answered : {A : Type 0} → Result A Refusal → Answer A
answered (Ok a) = gives a
answered (Err r) = refused (number r)
