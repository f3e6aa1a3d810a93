-- What is written of an input, where its bytes are known.
-- Assumes nothing.
use Rattle.std.specs.Prelude.{◌≡◌, ℕ, ◌<◌, ◌≤◌, Bool, true, false, ltb, List, [], ◌++◌, length, take, ⊤, None, Some}
use Rattle.std.proofs.Common.{refl, sym, ap, ◌∙◌, arith, length-take-le, take_all}
use Rattle.std.proofs.lemmas.List.{append-nil, take-append-le}
use Rattle.std.specs.Io.KnownBytes.{Appends, Consumes, IsAtEnd}
use Rattle.std.specs.declared.option.Option.{Option}
use Rattle.program_input.specs.Counts.{IsPrefixLen}
use borrow.Author.Tests.{ltb-true, ltb-false}

-- the first `written` bytes of the output are what is said of the input
pub record Prints (say : List ℕ → List ℕ) (input : List ℕ) (out : List ℕ) (written : ℕ) : Type 0 where
  pub fits : IsPrefixLen written out
  pub says : take written out ≡ say input

-- the first `written` bytes of the output are what is said of the first `read` bytes of the input's buffer
pub record Responds (say : List ℕ → List ℕ) (input : List ℕ) (read : ℕ) (out : List ℕ) (written : ℕ) : Type 0 where
  pub judged : read ≤ length input
  pub fits : IsPrefixLen written out
  pub says : take written out ≡ say (take read input)

-- where the input's bytes are known, what was said of them was written
abbrev pub Writes : (List ℕ → List ℕ) → Option (List ℕ) → Option (List ℕ) → Option (List ℕ) → Type 0
Writes say None old new = ⊤
Writes say (Some bs) old new = Appends old new (say bs)

-- what was read of an input into a buffer is as much of it as there is room for
front_taken : (bs xs ys : List ℕ) (room : ℕ) → bs ≡ xs ++ ys → length xs ≤ room → (length xs < room → ys ≡ []) → take room bs ≡ xs
front_taken bs xs ys room e h z = go (ltb (length xs) room) refl
  where
    go : (t : Bool) → ltb (length xs) room ≡ t → take room bs ≡ xs
    go true p =
        let w : bs ≡ xs = e ∙ (ap (λ (l : List ℕ). xs ++ l) (z (ltb-true _ _ p)) ∙ append-nil xs) in
        rw w (take_all room xs h)
    go false p =
        let q : length xs ≡ room = omega (arith, ltb-false (length xs) room p) in
        rw e (rw (← q) (take-append-le (length xs) xs ys (omega arith) ∙ take_all (length xs) xs (omega arith)))

-- so what is said of it is said of all the input, where no more than fits the buffer matters
pub written_said : (say : List ℕ → List ℕ) (room : ℕ) → ((bs : List ℕ) → say (take room bs) ≡ say bs) → (from rest old new : Option (List ℕ)) (batch text : List ℕ) (read : ℕ) → length batch ≡ room → read ≤ length batch
    → Consumes from rest (take read batch) → (read < length batch → IsAtEnd rest) → text ≡ say (take read batch) → Appends old new text → Writes say from old new
written_said say room same None rest old new batch text read l h c z t w = tt
written_said say room same (Some bs) None old new batch text read l h c z t w = absurd c
written_said say room same (Some bs) (Some ys) old new batch text read l h c z t w =
    let m : length (take read batch) ≡ read = length-take-le read batch h in
    let f : take room bs ≡ take read batch = front_taken bs (take read batch) ys room c (omega arith) (λ k. z (omega arith)) in
    let e : text ≡ say bs = t ∙ (ap say (sym f) ∙ same bs) in
    rw (← e) w

-- an output of n bytes has n bytes and more
pub enough : (n : ℕ) (out : List ℕ) → n ≡ length out → n ≤ length out
enough n out e = omega arith
