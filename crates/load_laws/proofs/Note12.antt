-- NOTE 12 of the definition, whole, for every starting number.
-- Assumes nothing.
use Rattle.std.specs.Prelude.{◌≡◌, ℕ, ◌≤◌, ◌<◌, length}
use Rattle.definition.specs.Basics.{refused, gives}
use Rattle.definition.specs.Refusals.{Accepted, accepted}
use Rattle.definition.specs.Writing.{laid_out, write}
use Rattle.load_laws.specs.Load.{load}
use Rattle.load_laws.proofs.Good.{taken, load_accepted, load_length, load_written, load_short}
use Rattle.load_laws.proofs.Uses.{Uses, load_uses}
use Rattle.load_laws.proofs.Differ.{loads_differ}

-- "Every starting number must give a batch of at least 64 calls that passes lines 2 to 7 and uses an insertion, a replacement and a change inside a replaced
-- node. The writer lays it out, 15 included. From 0 to 255 no two batches agree in operations and targets"
pub record Note12 (s : ℕ) : Type 0 where
  -- what lines 2 to 7 accept
  pub batch : Accepted
  pub passes : accepted (laid_out (load s)) ≡ gives batch
  pub uses : Uses batch
  -- the writer gives the bytes, or 15; it never says 14
  pub written : (room : ℕ) → length (laid_out (load s)) ≤ room → write (load s) room ≡ gives (laid_out (load s))
  pub short : (room : ℕ) → room < length (laid_out (load s)) → write (load s) room ≡ refused 15
  pub bytes : length (laid_out (load s)) ≤ 8632
  pub alone : (t : ℕ) → s < 256 → t < 256 → (load s).operations ≡ (load t).operations → (load s).targets ≡ (load t).targets → s ≡ t

pub note_12 : (s : ℕ) → Note12 s
note_12 s = record {
  batch = taken s;
  passes = load_accepted s;
  uses = load_uses s;
  written = load_written s;
  short = load_short s;
  bytes = (load_length s).1;
  alone = loads_differ s;
}
