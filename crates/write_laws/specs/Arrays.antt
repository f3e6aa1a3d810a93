-- Arrays of words, one after another, and what stands behind them: read where they are written, written where they are read.
-- Assumes nothing.
use Rattle.std.specs.Prelude.{◌≡◌, refl, List, [], ◌∷◌, ◌++◌, map, ℕ, ◌+◌, ◌*◌, ◌≤◌, length, drop}
use Rattle.std.proofs.Common.{ap, ◌∙◌, arith, length-drop, take-append-drop, drop_at}
use Rattle.orders.specs.Lists.{All}
use Rattle.definition.specs.Words.{words, written}
use Rattle.words.specs.Bytes.{Words, Bytes, drop_bytes, length_written, words_written, written_words}

-- the arrays of so many words each that stand at the front of some bytes
unfoldable pub parted : List ℕ → List ℕ → List (List ℕ)
parted [] b = []
parted (n ∷ ns) b = words n b ∷ parted ns (drop (4 * n) b)

-- what stands behind them
unfoldable pub behind : List ℕ → List ℕ → List ℕ
behind [] b = b
behind (n ∷ ns) b = behind ns (drop (4 * n) b)

-- how many bytes they take
unfoldable pub taken : List ℕ → ℕ
taken [] = 0
taken (n ∷ ns) = 4 * n + taken ns

-- the bytes of arrays, and behind them r
unfoldable pub joined : List (List ℕ) → List ℕ → List ℕ
joined [] r = r
joined (a ∷ ls) r = written a ++ joined ls r

passed : (a r : List ℕ) → drop (4 * length a) (written a ++ r) ≡ r
passed a r = drop_at (written a) r (4 * length a) (length_written a)

pub parted_joined : (ls : List (List ℕ)) (r : List ℕ) → All Words ls → parted (map length ls) (joined ls r) ≡ ls
unfolding parted joined
parted_joined [] r h = refl
parted_joined (a ∷ ls) r h = rw (words_written a (joined ls r) h.0, passed a (joined ls r)) (ap (λ (l : List (List ℕ)). a ∷ l) (parted_joined ls r h.1))

pub behind_joined : (ls : List (List ℕ)) (r : List ℕ) → behind (map length ls) (joined ls r) ≡ r
unfolding behind joined
behind_joined [] r = refl
behind_joined (a ∷ ls) r = ap (behind (map length ls)) (passed a (joined ls r)) ∙ behind_joined ls r

-- n words at the front of some bytes, and what is behind them
pub rejoined : (n : ℕ) (b : List ℕ) → 4 * n ≤ length b → Bytes b → written (words n b) ++ drop (4 * n) b ≡ b
rejoined n b l h = ap (λ (y : List ℕ). y ++ drop (4 * n) b) (written_words n b l h) ∙ take-append-drop (4 * n) b

pub joined_parted : (ns b : List ℕ) → taken ns ≤ length b → Bytes b → joined (parted ns b) (behind ns b) ≡ b
unfolding parted behind joined taken
joined_parted [] b l h = refl
joined_parted (n ∷ ns) b l h =
    rw (joined_parted ns (drop (4 * n) b) (omega (arith, length-drop (4 * n) b)) (drop_bytes (4 * n) b h)) (rejoined n b (omega arith) h)
