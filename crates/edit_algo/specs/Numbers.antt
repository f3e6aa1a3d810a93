-- The answers as document 01 numbers them.
-- Assumes nothing.
use Rattle.std.specs.Prelude as prelude
use Rattle.std.specs.Prelude.{◌≡◌, ℕ, Result, Ok, Err, Some, None}
use Rattle.std.proofs.Math.Option.{Option, none, some}
use Rattle.definition.specs.Basics as basics
use Rattle.definition.specs.Basics.{gives, refused}
use Rattle.refusals.specs.Numbers.{number, answered}
use Rattle.refusals.specs.declared.Refusal.{Refusal}
use Rattle.edit_answer.specs.Share.{Thousandths}
use Rattle.promises.specs.Serving.{of_length, of_place, of_share}
use Rattle.promises.specs.declared.Told.{Told}

-- the refusal's number, or quotient and remainder
unfoldable pub share_of : Result Thousandths Refusal → basics.Answer (ℕ × ℕ)
share_of (Err e) = refused (number e)
share_of (Ok s) = gives (s.quotient, s.remainder)

-- the refusal's number, or the element that is found, or none
unfoldable pub element_of : Result (prelude.Option ℕ) Refusal → basics.Answer (Option ℕ)
element_of (Err e) = refused (number e)
element_of (Ok None) = gives none
element_of (Ok (Some e)) = gives (some e)

-- an outcome that tells an answer of an edit is that answer
abbrev pub TellsLength : Result Told Refusal → Result ℕ Refusal → Type 0
TellsLength told r = (a : basics.Answer ℕ) → answered told ≡ of_length a → answered r ≡ a

-- and one that tells an answer on an element
abbrev pub TellsPlace : Result Told Refusal → Result (prelude.Option ℕ) Refusal → Type 0
TellsPlace told r = (a : basics.Answer (Option ℕ)) → answered told ≡ of_place a → element_of r ≡ a

-- and one that tells an answer on a share
abbrev pub TellsShare : Result Told Refusal → Result Thousandths Refusal → Type 0
TellsShare told r = (a : basics.Answer (ℕ × ℕ)) → answered told ≡ of_share a → share_of r ≡ a

-- an outcome tells an answer of an edit, and so no element and no share
abbrev pub LengthTold : Result Told Refusal → Type 0
LengthTold told = (a : basics.Answer ℕ) × (answered told ≡ of_length a)

-- one that tells an answer on an element
abbrev pub PlaceTold : Result Told Refusal → Type 0
PlaceTold told = (a : basics.Answer (Option ℕ)) × (answered told ≡ of_place a)

-- and one on a share
abbrev pub ShareTold : Result Told Refusal → Type 0
ShareTold told = (a : basics.Answer (ℕ × ℕ)) × (answered told ≡ of_share a)
