-- The surviving old elements of an edit, as pairs (document 02, Note 11): what a call hands out of them.
-- Assumes nothing.
use Rattle.std.specs.Prelude.{List, ◌++◌, ◌≡◌, map, length, ℕ, ◌*◌}
use Rattle.std.proofs.Common.{◌∙◌, arith, length-append}
use Rattle.std.proofs.lemmas.List.{length-map}
use Rattle.definition.specs.Basics.{Answer, gives, ◌>>=◌}
use Rattle.definition.specs.Choices.{Choices}
use Rattle.definition.specs.Words.{written}
use Rattle.words.specs.Bytes.{length_written}
use Rattle.definition.specs.Refusals.{accepted}
use Rattle.definition.specs.Account.{in_room}
use Rattle.definition.specs.Answers.{plan, ran, with_choices}
use Rattle.check_laws.specs.Claimed.{own_pairs}

-- "the surviving paths as pairs": each element of the old tree that is in the new tree, with its number there, by rising old numbers; or the refusal out of 2 to 12 and 16
unfoldable pub kept_pairs : Choices → List ℕ → Answer (List (ℕ × ℕ))
kept_pairs h bytes = do
  a ← accepted bytes
  p ← plan h a
  w ← ran a p
  gives (own_pairs a.trees w)

-- as words in bytes: all old numbers, then all new ones
unfoldable pub pair_bytes : List (ℕ × ℕ) → List ℕ
pair_bytes ps = written (map (λ p. p.0) ps ++ map (λ p. p.1) ps)

pub pairs_length : (ps : List (ℕ × ℕ)) → length (pair_bytes ps) ≡ 8 * length ps
unfolding pair_bytes
pairs_length ps =
    let O : List ℕ = map (λ p. p.0) ps in
    let N : List ℕ = map (λ p. p.1) ps in
    length_written (O ++ N) ∙ omega (arith, length-append O N, length-map ps (λ p. p.0), length-map ps (λ p. p.1))

-- in a slice of `room` bytes, or 13, where none of 17, 18 and 1 refuses
unfoldable pub paired : Choices → List ℕ → ℕ → Answer (List ℕ)
paired h bytes room = do
  ps ← kept_pairs h bytes
  in_room room (pair_bytes ps)

-- THE PAIRS as a public call gives them
unfoldable pub kept : Choices → List (ℕ × ℕ) → List ℕ → ℕ → Answer (List ℕ)
kept h work bytes room = with_choices h work (paired h bytes room)
