-- What each function promises, part by part.
-- Assumes nothing.
use Rattle.std.specs.Prelude.{◌≡◌, List, map, ℕ, ◌*◌, length}
use Rattle.std.proofs.Math.Seq.{paste}
use Rattle.definition.specs.Basics.{Answer, ◌>>=◌}
use Rattle.definition.specs.Words.{written}
use Rattle.definition.specs.Account.{in_room}
use Rattle.promises.specs.Keeping.{pair_bytes}
use Rattle.promises.specs.Serving.{tell_bytes}
use Rattle.promises.specs.declared.Told.{Told}

-- pairs over bytes: the old numbers at `olds`, the new ones at `news`
abbrev pub pairs_over : List (ℕ × ℕ) → ℕ → ℕ → List ℕ → List ℕ
pairs_over ps olds news b = paste (paste b olds (written (map (λ p. p.0) ps)) (4 * length ps)) news (written (map (λ p. p.1) ps)) (4 * length ps)

-- some pairs written
pub record PairWritten (ps : List (ℕ × ℕ)) (olds news : ℕ) (b out : List ℕ) (r : ℕ) : Type 0 where
  pub bytes : r ≡ 4 * length ps
  pub told : out ≡ pairs_over ps olds news b

-- what is told of pairs, and their bytes, in so much room; or 13
abbrev pub tell_pairs : ℕ → List (ℕ × ℕ) → Answer (Told × List ℕ)
tell_pairs room ps = in_room room (pair_bytes ps) >>= tell_bytes
