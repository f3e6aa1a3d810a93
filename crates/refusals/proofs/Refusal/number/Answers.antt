-- `number` meets its contract: each variant's number is the one that the documents give it.
use mathlib.Core.Path.{◌≡◌, refl}
use Prim.Native.Nat.{◌+◌}
use denote.Enum.Declared.{tag_of}
use Rattle.refusals.specs.contracts.Refusal.{the_type}
use Rattle.refusals.specs.declared.Refusal.{Refusal}
use Rattle.refusals.specs.declared.Refusal.TheVariants.{ShortWork, ShortBatch, Size, Length, Spelling, Call, Name, Overlap, Unmapped, Endless, Gone, Large, ShortResult, Lists, ShortDestination, Listed, Edge, Stronger, ClaimedName, Bookmarks, Astray, AnotherTree}
use Rattle.refusals.specs.Numbers.{number}
use Rattle.refusals.proofs.Refusal.number.Goals as goal

tagged : (r : Refusal) → tag_of the_type r + 1 ≡ number r
unfolding number
tagged ShortWork = refl
tagged ShortBatch = refl
tagged Size = refl
tagged Length = refl
tagged Spelling = refl
tagged Call = refl
tagged Name = refl
tagged Overlap = refl
tagged Unmapped = refl
tagged Endless = refl
tagged Gone = refl
tagged Large = refl
tagged ShortResult = refl
tagged Lists = refl
tagged ShortDestination = refl
tagged Listed = refl
tagged Edge = refl
tagged Stronger = refl
tagged ClaimedName = refl
tagged Bookmarks = refl
tagged Astray = refl
tagged AnotherTree = refl

pub returns : goal.returns
returns c = tagged c.args.self
