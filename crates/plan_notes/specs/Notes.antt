-- The settled notes by element number: the definition's notes with the element where each has its path.
-- Assumes nothing.
use mathlib.Core.List.{List, [], ◌∷◌, ◌++◌, map}
use Rattle.std.proofs.Math.Option.{Option}
use Rattle.std.specs.Prelude.{◌≡◌, length}
use Rattle.std.proofs.Math.Path.{refl}
use Rattle.std.proofs.Common.{ap}
use Prim.Native.Nat.{ℕ, suc}
use Rattle.definition.specs.Basics.{Answer, refused, gives, ◌>>=◌}
use Rattle.definition.specs.Elements.{Table, row}
use Rattle.definition.specs.Rewriting.{Note, settle, settled}

-- the note of a settled element, its number and its queue place
unfoldable pub note_of : Table → ℕ × ℕ × ℕ → Note
note_of T m = record { path = (row T m.0).path; number = m.1; place = m.2 }

module _ (T : Table) (mapped : ℕ → Option ℕ) where
  -- the notes (element and number) from queue place i on, each as the element where it settles, its number and its queue place
  unfoldable pub settled_at : ℕ → List (ℕ × ℕ) → Answer (List (ℕ × ℕ × ℕ))
  settled_at i [] = gives []
  settled_at i (n ∷ ns) = do
    e ← settle T mapped (length T) n.0
    rest ← settled_at (suc i) ns
    gives ((e, n.1, i) ∷ rest)

  -- the definition's notes are those of the settled elements
  pub settled_told : (i : ℕ) (ns : List (ℕ × ℕ)) → settled T mapped i ns ≡ (settled_at i ns >>= λ l. gives (map (note_of T) l))
  unfolding settled settled_at note_of ◌>>=◌
  settled_told i [] = refl
  settled_told i (n ∷ ns) = go (settle T mapped (length T) n.0) (settled T mapped (suc i) ns) (settled_at (suc i) ns) (settled_told (suc i) ns)
    where
      go : (s : Answer ℕ) (q : Answer (List Note)) (r : Answer (List (ℕ × ℕ × ℕ))) → q ≡ (r >>= λ l. gives (map (note_of T) l))
          → (s >>= λ e. q >>= λ rest. gives (record { path = (row T e).path; number = n.1; place = i } ∷ rest)) ≡ ((s >>= λ e. r >>= λ rest. gives ((e, n.1, i) ∷ rest)) >>= λ l. gives (map (note_of T) l))
      go (refused x) q r h = refl
      go (gives e) q (refused x) h = rw h
      go (gives e) q (gives l) h = rw h

-- three words a note: the row of its element, its number, its queue place
unfoldable pub note_words : List (ℕ × ℕ × ℕ) → List ℕ
note_words [] = []
note_words (m ∷ l) = suc m.0 ∷ m.1 ∷ m.2 ∷ note_words l

pub words_behind : (l : List (ℕ × ℕ × ℕ)) (m : ℕ × ℕ × ℕ) → note_words (l ++ m ∷ []) ≡ note_words l ++ suc m.0 ∷ m.1 ∷ m.2 ∷ []
unfolding note_words
words_behind [] m = refl
words_behind (x ∷ l) m = ap (λ (r : List ℕ). suc x.0 ∷ x.1 ∷ x.2 ∷ r) (words_behind l m)
