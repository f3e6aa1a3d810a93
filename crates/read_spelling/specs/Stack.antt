-- The first d elements of an array as a stack, the last of them on top; the elements of a batch from number i on.
-- Assumes nothing.
use Rattle.std.specs.Prelude.{◌≡◌, length, get_or, drop}
use Rattle.std.proofs.Math.Path.{refl, ap}
use mathlib.Core.List.{List, [], ◌∷◌, zip}
use Prim.Native.Nat.{ℕ, zero, suc, ◌+◌, ◌-◌, ◌*◌, ◌≤◌, ◌<◌}
use Rattle.std.proofs.Common.{◌∙◌, add-one, get_or-set_other}
use native.Mathlib.Omega.{arith}
use Rattle.std.proofs.Math.ListN.{set, length-set}
use Rattle.std.proofs.Math.Seq.{get_or-set_same, drop-drop}
use Rattle.definition.specs.Words.{word, words}
use Rattle.read_spelling.specs.Spelling.{elements_at}

-- ── A stack ─────────────────────────────────────────────────────────────────────────────────────────────────

module _ {A : Type 0} (z : A) where
  unfoldable pub stack : List A → ℕ → List A
  stack l zero = []
  stack l (suc d) = get_or l d z ∷ stack l d

  pub stack_none : (l : List A) (d : ℕ) → d ≤ 0 → stack l d ≡ []
  unfolding stack
  stack_none l d h = let e : d ≡ 0 = omega arith in rw e

  pub length_stack : (l : List A) (d : ℕ) → length (stack l d) ≡ d
  unfolding stack
  length_stack l zero = refl
  length_stack l (suc d) = ap suc (length_stack l d)

  -- what is stored above it
  stack_set : (l : List A) (d i : ℕ) (x : A) → d ≤ i → stack (set l i x) d ≡ stack l d
  unfolding stack
  stack_set l zero i x h = refl
  stack_set l (suc d) i x h = rw (get_or-set_other l i d x z (λ e. omega arith), stack_set l d i x (omega arith))

  pub stack_top : (l : List A) (d : ℕ) → 0 < d → stack l d ≡ get_or l (d - 1) z ∷ stack l (d - 1)
  unfolding stack
  stack_top l zero h = absurd (omega arith)
  stack_top l (suc d) h = let e : suc d - 1 ≡ d = omega arith in rw e

  -- the top replaced
  pub stack_put : (l : List A) (d : ℕ) (x : A) → 0 < d → d ≤ length l → stack (set l (d - 1) x) d ≡ x ∷ stack l (d - 1)
  stack_put l d x h k = rw (stack_top (set l (d - 1) x) d h, get_or-set_same l (d - 1) x z (omega arith), stack_set l (d - 1) (d - 1) x (omega arith))

  -- the top replaced, and one more put on it
  pub stack_push : (l : List A) (d : ℕ) (x y : A) → 0 < d → d < length l → stack (set (set l (d - 1) x) d y) (d + 1) ≡ y ∷ x ∷ stack l (d - 1)
  unfolding stack
  stack_push l d x y h k =
      let l' : List A = set l (d - 1) x in
      rw (add-one d, get_or-set_same l' d y z (simp length-set k), stack_set l' d d y (omega arith), stack_put l d x h (omega arith))

  -- ── The same with its top held apart ──

  -- x on top of elements d - 1 to 1 of the array, if it is d high
  unfoldable pub held : List A → A → ℕ → List A
  held l x zero = []
  held l x (suc d) = x ∷ held l (get_or l d z) d

  pub held_none : (l : List A) (x : A) (d : ℕ) → d ≤ 0 → held l x d ≡ []
  unfolding held
  held_none l x d h = let e : d ≡ 0 = omega arith in rw e

  pub length_held : (l : List A) (x : A) (d : ℕ) → length (held l x d) ≡ d
  unfolding held
  length_held l x zero = refl
  length_held l x (suc d) = ap suc (length_held l (get_or l d z) d)

  pub held_top : (l : List A) (x : A) (d : ℕ) → 0 < d → held l x d ≡ x ∷ held l (get_or l (d - 1) z) (d - 1)
  unfolding held
  held_top l x zero h = absurd (omega arith)
  held_top l x (suc d) h = let e : suc d - 1 ≡ d = omega arith in rw e

  -- what is stored above it
  held_set : (l : List A) (x : A) (d i : ℕ) (y : A) → d ≤ i → held (set l i y) x d ≡ held l x d
  unfolding held
  held_set l x zero i y h = refl
  held_set l x (suc d) i y h = ap (λ s. x ∷ s) (ap (λ w. held (set l i y) w d) (get_or-set_other l i d y z (λ e. omega arith)) ∙ held_set l (get_or l d z) d i y (omega arith))

  -- one more put on it
  pub held_push : (l : List A) (x y : A) (d : ℕ) → d < length l → held (set l d y) x (d + 1) ≡ x ∷ held l y d
  unfolding held
  held_push l x y d h = rw (add-one d) (ap (λ s. x ∷ s) (ap (λ w. held (set l d y) w d) (get_or-set_same l d y z h) ∙ held_set l y d d y (omega arith)))

-- ── The elements that are left ──────────────────────────────────────────────────────────────────────────────

module _ (b : List ℕ) (kinds measures n : ℕ) where
  unfoldable pub elements_from : ℕ → List (ℕ × ℕ)
  elements_from i = zip (words (n - i) (drop (kinds + 4 * i) b)) (words (n - i) (drop (measures + 4 * i) b))

  pub elements_all : elements_from 0 ≡ elements_at b kinds measures n
  unfolding elements_from elements_at
  elements_all =
      let e : n - 0 ≡ n = omega arith in
      let f : (x : ℕ) → x + 4 * 0 ≡ x = λ x. omega arith in
      rw (e, f kinds, f measures)

  pub elements_none : (i : ℕ) → n ≤ i → elements_from i ≡ []
  unfolding elements_from words zip
  elements_none i h = let e : n - i ≡ 0 = omega arith in rw e

  pub elements_more : (i : ℕ) → i < n → elements_from i ≡ (word (drop (kinds + 4 * i) b), word (drop (measures + 4 * i) b)) ∷ elements_from (i + 1)
  unfolding elements_from words zip
  elements_more i h =
      let e : n - i ≡ suc (n - (i + 1)) = omega arith in
      let f : (x : ℕ) → x + 4 * i + 4 ≡ x + 4 * (i + 1) = λ x. omega arith in
      rw (e, drop-drop 4 (kinds + 4 * i) b, drop-drop 4 (measures + 4 * i) b, f kinds, f measures)
