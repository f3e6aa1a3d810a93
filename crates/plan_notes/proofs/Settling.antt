-- The loop of `settle_notes`: the notes so far are settled and written, and the rest of the definition's stands before it.
-- Assumes nothing.
use mathlib.Core.List.{List, [], ◌∷◌, ◌++◌, append_assoc, append-nil, zip}
use mathlib.Core.Path.{◌≡◌, refl, sym, ap, ◌∙◌}
use Prim.Native.Nat.{ℕ, suc, ◌+◌, ◌*◌, ◌≤◌, ◌<◌}
use native.Mathlib.Numerals.{add-one}
use native.Mathlib.Omega.{arith}
use lib.ListN.{length, get_or, drop, length-append}
use lib.Seq.{paste, paste-zero}
use Rattle.orders.specs.Lists.{All}
use Rattle.definition.specs.Basics.{Answer, refused, gives, ◌>>=◌}
use Rattle.definition_laws.specs.Basics.{All-append}
use Rattle.words.specs.Parts.{paste_paste}
use Rattle.read_element_table.specs.View.{view}
use Rattle.read_element_table.specs.Told.{length_view}
use Rattle.plan_mapping.specs.Mapped.{mapped_by}
use Rattle.plan_mapping.proofs.Pairs.{zip_next, zip_done}
use Rattle.std.specs.Prelude.{Result, Ok, Err}
use Rattle.refusals.specs.declared.Refusal.{Refusal}
use Rattle.refusals.specs.Numbers.{number, answered}
use Rattle.plan_upmap.specs.Settling.{settled_at_lem, SettledAt}
use Rattle.plan_notes.specs.Notes.{settled_at, note_words, words_behind}
use Rattle.plan_notes.specs.Answers.{notes_by, NotesSettled}

module _ {A : Type 0} where
  none_before : (a : Answer (List A)) → a ≡ (a >>= λ l. gives ([] ++ l))
  unfolding ◌>>=◌
  none_before (refused x) = refl
  none_before (gives l) = refl

  one_more : (p : List A) (z : A) (a : Answer (List A)) → ((a >>= λ r. gives (z ∷ r)) >>= λ l. gives (p ++ l)) ≡ (a >>= λ l. gives ((p ++ z ∷ []) ++ l))
  unfolding ◌>>=◌
  one_more p z (refused x) = refl
  one_more p z (gives l) = ap gives (sym (append_assoc p (z ∷ []) l))

module _ (xs ys : List ℕ) (k n : ℕ) (w s m before : List ℕ) where
  -- i notes are settled
  pub record Settling (i : ℕ) (after : List ℕ) : Type 0 where
    pub inside : i ≤ k
    pub long : length after ≡ length before
    pub elements : All (λ x. x.0 < n) (drop i (zip xs ys))
    pub sofar : List (ℕ × ℕ × ℕ)
    pub low : All (λ x. x.0 < n) sofar
    pub count : length (note_words sofar) ≡ 3 * i
    pub rest : settled_at (view n w s) (mapped_by m) 0 (zip xs ys) ≡ (settled_at (view n w s) (mapped_by m) i (drop i (zip xs ys)) >>= λ l. gives (sofar ++ l))
    pub written : after ≡ paste before 0 (note_words sofar) (3 * i)

  pub settling_start : All (λ x. x.0 < n) (zip xs ys) → Settling 0 before
  unfolding note_words
  settling_start h =
      record {
        inside = omega arith;
        long = refl;
        elements = h;
        sofar = [];
        low = tt;
        count = refl;
        rest = none_before _;
        written = paste-zero before 0 [];
      }

  module _ (i : ℕ) (after : List ℕ) (S : Settling i after) where
    pub settling_done : length xs ≡ k → length ys ≡ k → k ≤ i → NotesSettled n w s m (zip xs ys) k before after (Ok tt)
    unfolding notes_by ◌>>=◌ settled_at
    settling_done lx ly h =
        let e : i ≡ k = omega (arith, S.inside) in
        let all : settled_at (view n w s) (mapped_by m) 0 (zip xs ys) ≡ gives S.sofar =
        S.rest ∙ rw (zip_done xs ys i (omega arith), append-nil S.sofar) in
        record { words = rw all (ap gives (S.written ∙ ap (λ (j : ℕ). paste before 0 (note_words S.sofar) (3 * j)) e)); within = rw all S.low }

    module _ (lx : length xs ≡ k) (ly : length ys ≡ k) (h : i < k) (x y : ℕ) (ex : x ≡ get_or xs i 0) (ey : y ≡ get_or ys i 0) where
      next : drop i (zip xs ys) ≡ (x, y) ∷ drop (i + 1) (zip xs ys)
      next = rw (ex, ey, add-one i) (zip_next xs ys i (omega arith) (omega arith))

      left : All (λ q. q.0 < n) ((x, y) ∷ drop (i + 1) (zip xs ys))
      left = rw next at S.elements

      pub settling_element : x < n
      settling_element = left.0

      module _ (o : Result ℕ Refusal) (A : SettledAt n w s m x o) where
        turn : settled_at (view n w s) (mapped_by m) i (drop i (zip xs ys)) ≡ (answered o >>= λ e. settled_at (view n w s) (mapped_by m) (suc i) (drop (i + 1) (zip xs ys)) >>= λ r. gives ((e, y, i) ∷ r))
        unfolding settled_at
        turn = rw (next, A.place, settled_at, length_view n w s)

        pub settling_refused : (r : Refusal) → o ≡ Err r → NotesSettled n w s m (zip xs ys) k before after (Err r)
        unfolding notes_by ◌>>=◌ answered
        settling_refused r q =
            let all : settled_at (view n w s) (mapped_by m) 0 (zip xs ys) ≡ refused (number r) = S.rest ∙ rw (turn, q) in
            record { words = rw all; within = rw all tt }

        module _ (e : ℕ) (q : o ≡ Ok e) where
          pub settling_next : (after' : List ℕ) → 3 * k ≤ length before → length after' ≡ length after → after' ≡ paste after (3 * i) ((e + 1) ∷ y ∷ i ∷ []) 3 → Settling (i + 1) after'
          unfolding ◌>>=◌ answered
          settling_next after' room l g =
              let p : List (ℕ × ℕ × ℕ) = S.sofar in
              let T = settled_at (view n w s) (mapped_by m) (i + 1) (drop (i + 1) (zip xs ys)) in
              record {
                inside = omega arith;
                long = l ∙ S.long;
                elements = left.1;
                sofar = p ++ (e, y, i) ∷ [];
                low = All-append (λ x. x.0 < n) p ((e, y, i) ∷ []) S.low (settled_at_lem A.within q, tt);
                count = ap length (words_behind p (e, y, i)) ∙ omega (arith, length-append (note_words p) (suc e ∷ y ∷ i ∷ []), S.count);
                rest = S.rest ∙ (rw (turn, q, ← add-one i) (one_more p (e, y, i) T));
                written = g ∙ rw (S.written, add-one e, words_behind p (e, y, i)) (paste_paste before 0 (note_words p) (3 * i) (suc e ∷ y ∷ i ∷ []) 3 (3 * i) (3 * (i + 1)) (omega arith) (omega arith) (omega arith) (omega (arith, S.count)) (omega (arith, S.count)));
              }
