-- An outcome as one number, and that a number that is returned is read as it was meant.
-- Assumes nothing.
use Rattle.std.specs.Prelude.{◌≡◌, ℕ, ◌+◌, ◌*◌, ◌≤◌, ◌<◌, ℤ, pos, neg_ℤ, Option, Some, None}
use Rattle.std.proofs.Common.{arith, to_z, of_z}
use Rattle.std.specs.Int.{w64}
use Rattle.definition.specs.Basics.{Answer, refused, gives}
use Rattle.promises.specs.declared.Told.{Told}
use Rattle.promises.specs.declared.Told.TheVariants.{Bytes, Place, Of}
use Rattle.edit_numbers.specs.Negated.{neg_told, pos_told}

-- a share as one number: 65,536 for each of its quotient, and its remainder
unfoldable pub share_word : ℕ → ℕ → ℕ
share_word q m = 65536 * q + m

-- an element's number, −1000 for none
unfoldable pub found_number : Option ℕ → ℤ
found_number None = neg_ℤ (pos 1000)
found_number (Some n) = pos n

-- it is small
unfoldable pub Near : Option ℕ → Type 0
Near None = Unit {0}
Near (Some n) = n ≤ 134217728

-- the number that tells an outcome: a refusal with a minus, −1000 for no element
unfoldable pub number_of : Answer Told → ℤ
number_of (refused n) = neg_ℤ (pos n)
number_of (gives (Bytes n)) = pos n
number_of (gives (Place e)) = found_number e
number_of (gives (Of q m)) = pos (share_word q m)

-- what an outcome tells is small
unfoldable pub Small : Answer Told → Type 0
Small (refused n) = n ≤ 134217728
Small (gives (Bytes n)) = n ≤ 134217728
Small (gives (Place e)) = Near e
Small (gives (Of q m)) = (q ≤ 1000) × (m < 65536)

pub share_small : (q m : ℕ) → (q ≤ 1000) × (m < 65536) → share_word q m ≤ 134217728
unfolding share_word
share_small q m h = omega (arith, h.0, h.1)

-- the number is read back as it was written
pub number_read : (o : Answer Told) → Small o → to_z w64 (of_z w64 (number_of o)) ≡ number_of o
unfolding Small number_of Near found_number
number_read (refused n) h = neg_told n h
number_read (gives (Bytes n)) h = pos_told n h
number_read (gives (Place None)) h = neg_told 1000 (omega arith)
number_read (gives (Place (Some n))) h = pos_told n h
number_read (gives (Of q m)) h = pos_told (share_word q m) (share_small q m h)
