-- Words of four bytes and parts, read from an input where its bytes are known.
-- Assumes nothing.
use Rattle.std.specs.Prelude.{◌≡◌, ℕ, ◌<◌, List, ◌++◌, length, take, ◌⊎◌, None, Some}
use Rattle.std.specs.Int.{w32, from_le_bytes}
use Rattle.std.specs.Io.KnownBytes.{Consumes, IsAtEnd}
use Rattle.std.specs.declared.option.Option.{Option}
use Rattle.program_input.specs.Counts.{IsPrefixLen}

-- the next four bytes as a number, the low one first, or nothing where fewer were left
abbrev pub ReadsWord : Option (List ℕ) → Option (List ℕ) → Option ℕ → Type 0
ReadsWord old new None = (bs : List ℕ) × Consumes old new bs × (length bs < 4) × IsAtEnd new
ReadsWord old new (Some n) = (bs : List ℕ) × Consumes old new bs × (length bs ≡ 4) × (n ≡ from_le_bytes w32 bs)

-- no part: fewer than four bytes were left, or the next word says more bytes than there is room for, or more than were left behind it
abbrev pub NoPart : Option (List ℕ) → Option (List ℕ) → ℕ → Type 0
NoPart old new room =
    ReadsWord old new None
    ⊎ ((bs : List ℕ) × Consumes old new bs × (length bs ≡ 4) × (room < from_le_bytes w32 bs))
    ⊎ ((bs : List ℕ) × (rest : List ℕ) × Consumes old new (bs ++ rest) × (length bs ≡ 4) × (length rest < from_le_bytes w32 bs) × IsAtEnd new)

-- the next word, and as many bytes behind it as it says, which stand at the front of the part
abbrev pub ReadsPart : Option (List ℕ) → Option (List ℕ) → List ℕ → Option ℕ → Type 0
ReadsPart old new part None = NoPart old new (length part)
ReadsPart old new part (Some n) = IsPrefixLen n part × ((bs : List ℕ) × Consumes old new (bs ++ take n part) × (length bs ≡ 4) × (n ≡ from_le_bytes w32 bs))
