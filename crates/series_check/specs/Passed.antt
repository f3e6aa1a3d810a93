-- The number 0 is that of no refusal: a memory of which it is told passes.
-- Assumes nothing.
use Rattle.std.specs.Prelude.{◌≡◌, refl, Bool, true, false, ◌||◌, ℕ, suc, ltb, length, drop}
use Rattle.std.proofs.Common.{sym, ap, ◌∙◌, arith}
use Rattle.std.proofs.Math.Option.{Option, none, some}
use Rattle.orders.specs.Lists.{any}
use Rattle.definition.specs.Basics.{Answer, refused, gives, ◌>>=◌, refuse, or_refuse}
use Rattle.definition.specs.Elements.{spelled}
use Rattle.definition.specs.Words.{word}
use Rattle.definition.specs.Writing.{differ}
use Rattle.check_laws.specs.Check.{alone}
use Rattle.series_laws.specs.Memory.{Memory, too_big, wrong_numbers, astray, held}
use Rattle.series_laws.specs.Lent.{Lent, slots_in, beyond_slot, memory_in, cut_off, lent}
use Rattle.series_check.specs.Judged.{number_of, judged}

-- it is refused by no number, or what it gives is told
abbrev Never0 : {A : Type 0} → Answer A → Type 0
Never0 {A} o = number_of o ≡ 0 → (a : A) × (o ≡ gives a)

gives_never : {A : Type 0} (a : A) → Never0 (gives a)
gives_never a e = (a, refl)

then_never : {A B : Type 0} (o : Answer A) (f : A → Answer B) → Never0 o → ((a : A) → Never0 (f a)) → Never0 (o >>= f)
unfolding ◌>>=◌ number_of
then_never (refused n) f h k e = let (a, q) = h e in apart q
  where
    apart : {A C : Type 0} {n : ℕ} {a : A} → ◌≡◌ {A = Answer A} (refused n) (gives a) → C
    apart q = let z : ◌≡◌ {A = ℕ} 0 1 = cc in absurd (omega arith)
then_never (gives a) f h k e = k a e

refuse_never : (n : ℕ) (b : Bool) → Never0 (refuse (suc n) b)
unfolding refuse number_of
refuse_never n true e = absurd (omega arith)
refuse_never n false e = (tt, refl)

or_never : {A : Type 0} (n : ℕ) (o : Option A) → Never0 (or_refuse (suc n) o)
unfolding or_refuse number_of
or_never n none e = absurd (omega arith)
or_never n (some a) e = (a, refl)

held_never : (most : ℕ) (m : Memory) → Never0 (held most m)
unfolding held
held_never most m =
    then_never _ _ (refuse_never 2 (too_big most m.tree)) λ u.
    then_never _ _ (refuse_never 3 (differ m.tree.kinds m.tree.measures)) λ u.
    then_never _ _ (or_never 4 (spelled (alone m.tree))) λ ts.
    then_never _ _ (refuse_never 19 (wrong_numbers m.bookmarks)) λ u.
    then_never _ _ (refuse_never 20 (any (astray ts) m.bookmarks)) λ u.
    gives_never ts

lent_never : (most : ℕ) (l : Lent) → Never0 (lent most l)
unfolding lent
lent_never most l =
    then_never _ _ (refuse_never 3 (ltb (length l.tree) 8)) λ u.
    then_never _ _ (refuse_never 2 (ltb most (word l.tree) || ltb 16384 (word (drop 4 l.tree)))) λ u.
    then_never _ _ (refuse_never 3 (cut_off l)) λ u.
    then_never _ _ (held_never most (memory_in l)) λ ts.
    then_never _ _ (refuse_never 20 (any beyond_slot (slots_in l.bookmarks))) λ u.
    gives_never (memory_in l)

-- A MEMORY THAT IS TOLD 0 PASSES
pub judged_passes : (most : ℕ) (l : Lent) {r : ℕ} → r ≡ number_of (lent most l) → r ≡ 0 → (m : Memory) × (lent most l ≡ gives m)
judged_passes most l e z = lent_never most l (sym e ∙ z)

-- and one that is told another number is refused by it
pub judged_refuses : (most : ℕ) (l : Lent) {r : ℕ} → r ≡ number_of (lent most l) → (r ≡ 0 → ⊥) → lent most l ≡ refused r
unfolding number_of
judged_refuses most l {r} e z = go (lent most l) refl e
  where
    go : (o : Answer Memory) → lent most l ≡ o → r ≡ number_of o → lent most l ≡ refused r
    go (refused n) q e = q ∙ ap {B = Answer Memory} refused (sym e)
    go (gives m) q e = absurd (z e)

-- ── The same of what the check answers ──────────────────────────────────────────────────────────────────────

-- where none is answered, something is given
pub judged_ok : {A : Type 0} (o : Answer A) {p : Answer (Unit {0})} → p ≡ judged o → p ≡ gives tt → (a : A) × (o ≡ gives a)
unfolding judged
judged_ok (refused n) e z = let q = sym e ∙ z in cc
judged_ok (gives a) e z = (a, refl)

-- and one that is answered is the refusal
pub judged_err : {A : Type 0} (o : Answer A) {p : Answer (Unit {0})} (n : ℕ) → p ≡ judged o → p ≡ refused n → o ≡ refused n
unfolding judged
judged_err (refused k) n e z = let q = sym e ∙ z in cc
judged_err (gives a) n e z = let q = sym e ∙ z in cc
