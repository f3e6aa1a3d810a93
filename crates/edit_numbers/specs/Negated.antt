-- A number below half the width as an i64, and with a minus.
-- Assumes nothing.
use Rattle.std.specs.Prelude.{◌≡◌, ℕ, zero, suc, ◌≤◌, pos, neg_ℤ, ◌-ℤ◌}
use Rattle.std.proofs.Common.{arith, SFits, to_z, of_z}
use Rattle.std.proofs.Math.IntN.{+ℤ_idl}
use Rattle.std.specs.Int.{w64}
use Rattle.std.proofs.lemmas.Int.{to_z-of_z}

-- a number of at most 134,217,728 is read as it is
pub reads_pos : (n : ℕ) → n ≤ 134217728 → to_z w64 n ≡ pos n
reads_pos n h = to_z-of_z w64 (pos n) (record { sfits = omega arith })

-- nothing less a number is the number with a minus
minus : (n : ℕ) → pos 0 -ℤ pos n ≡ neg_ℤ (pos n)
minus n = +ℤ_idl (neg_ℤ (pos n))

neg_fits : (n : ℕ) → n ≤ 134217728 → SFits w64 (neg_ℤ (pos n))
neg_fits zero h = record { sfits = omega arith }
neg_fits (suc n) h = record { sfits = omega arith }

pub minus_fits : (n : ℕ) → n ≤ 134217728 → SFits w64 (pos 0 -ℤ to_z w64 n)
minus_fits n h = rw (reads_pos n h, minus n) (neg_fits n h)

pub minus_reads : (n : ℕ) → n ≤ 134217728 → to_z w64 (of_z w64 (pos 0 -ℤ to_z w64 n)) ≡ neg_ℤ (pos n)
minus_reads n h = rw (reads_pos n h, minus n) (to_z-of_z w64 (neg_ℤ (pos n)) (neg_fits n h))

-- both are read back as they are written
pub neg_told : (n : ℕ) → n ≤ 134217728 → to_z w64 (of_z w64 (neg_ℤ (pos n))) ≡ neg_ℤ (pos n)
neg_told n h = to_z-of_z w64 (neg_ℤ (pos n)) (neg_fits n h)

pub pos_told : (n : ℕ) → n ≤ 134217728 → to_z w64 (of_z w64 (pos n)) ≡ pos n
pos_told n h = to_z-of_z w64 (pos n) (record { sfits = omega arith })
