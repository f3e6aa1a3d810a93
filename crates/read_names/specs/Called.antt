-- Line 6, call by call; 16, by the call words alone.
-- Assumes nothing.
use Rattle.std.specs.Prelude.{◌≡◌, Bool, true, false, cond, not, ◌&&◌, ◌||◌, ℕ, length, take, drop, leb, eqb}
use Rattle.std.proofs.Math.Path.{refl, sym}
use Rattle.std.proofs.Common.{ap, arith, length-take-le, leb-true}
use mathlib.Core.List.{List, [], ◌∷◌, zip}
use Rattle.std.proofs.Math.Option.{Option, none, some, map}
use Rattle.std.proofs.Math.Dec.{eqb-suc-zero}
use Rattle.orders.specs.ListLaws.{some_inj, none_some}
use Rattle.definition.specs.Basics.{any}
use Rattle.definition.specs.Elements.{Table}
use Rattle.definition.specs.Refusals.{operation_of, count_of, Call, call_of, calls, too_many, lists_too_many, wrong_call}

-- the counts add up, and no call is wrong
unfoldable pub none_wrong : Table → Option (List Call) → Bool
none_wrong T none = false
none_wrong T (some cs) = not (any (wrong_call T) cs)

-- line 6 of call words with their targets, and the listed elements
unfoldable pub calls_fit : Table → List (ℕ × ℕ) → List ℕ → Bool
calls_fit T cs l = none_wrong T (calls cs l)

module _ (T : Table) where
  -- no call is left: no element either
  pub fit_end : (l : List ℕ) → calls_fit T [] l ≡ eqb (length l) 0
  unfolding calls_fit none_wrong calls any
  fit_end [] = refl
  fit_end (x ∷ l) = sym (eqb-suc-zero (length l))

  -- a call, and those after it
  pub fit_more : (w x : ℕ) (cs : List (ℕ × ℕ)) (l : List ℕ)
      → calls_fit T ((w, x) ∷ cs) l ≡ (leb (count_of w) (length l) && (not (wrong_call T (call_of w x (take (count_of w) l))) && calls_fit T cs (drop (count_of w) l)))
  unfolding calls_fit none_wrong calls any
  fit_more w x cs l = go (leb (count_of w) (length l)) (calls cs (drop (count_of w) l))
    where
      c : Call
      c = call_of w x (take (count_of w) l)

      both : (a b : Bool) → not (a || b) ≡ (not a && not b)
      both true b = refl
      both false b = refl

      and-false : (a : Bool) → false ≡ (a && false)
      and-false true = refl
      and-false false = refl

      go : (t : Bool) (o : Option (List Call)) → none_wrong T (cond t (map (λ r. c ∷ r) o) none) ≡ (t && (not (wrong_call T c) && none_wrong T o))
      go false o = refl
      go true none = and-false (not (wrong_call T c))
      go true (some r) = both (wrong_call T c) (any (wrong_call T) r)

-- ── 16 ──────────────────────────────────────────────────────────────────────────────────────────────────────

-- 16, of a call by its word
unfoldable pub word_too_many : ℕ → Bool
word_too_many w = too_many (operation_of w) (count_of w)

-- calls that have taken their listed elements list as many as their words say
pub listed_told : (cs : List (ℕ × ℕ)) (l : List ℕ) (r : List Call) → calls cs l ≡ some r → any lists_too_many r ≡ any (λ c. word_too_many c.0) cs
unfolding calls any lists_too_many word_too_many
listed_told [] [] r e = rw (← some_inj e)
listed_told [] (x ∷ l) r e = none_some e
listed_told (c ∷ cs) l r e = go (leb n (length l)) refl (calls cs (drop n l)) (listed_told cs (drop n l)) e
  where
    n : ℕ
    n = count_of c.0

    go : (t : Bool) → leb n (length l) ≡ t → (o : Option (List Call)) → ((s : List Call) → o ≡ some s → any lists_too_many s ≡ any (λ c. word_too_many c.0) cs) → cond t (map (λ r. call_of c.0 c.1 (take n l) ∷ r) o) none ≡ some r
        → any lists_too_many r ≡ any (λ c. word_too_many c.0) (c ∷ cs)
    go false h o q e = none_some e
    go true h none q e = none_some e
    go true h (some s) q e = rw (← some_inj e, length-take-le n l (leb-true n (length l) h), q s refl)

-- as many words as targets: the words alone tell
pub words_told : (p : ℕ → Bool) (ws ts : List ℕ) → length ws ≡ length ts → any (λ c. p c.0) (zip ws ts) ≡ any p ws
unfolding any zip
words_told p [] ts e = refl
words_told p (w ∷ ws) [] e = absurd (omega arith)
words_told p (w ∷ ws) (t ∷ ts) e = ap (λ (b : Bool). p w || b) (words_told p ws ts (omega arith))
