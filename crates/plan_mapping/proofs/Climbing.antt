-- The loop of `upmap_to_ancestor`: the definition's climb from where it stands, with as many steps left.
-- Assumes nothing.
use mathlib.Core.List.{List, [], ◌∷◌}
use mathlib.Core.Option
use mathlib.Core.Option.{Option, none, some}
use mathlib.Core.Path.{◌≡◌, refl, sym, ap, ◌∙◌}
use Prim.Native.Nat.{ℕ, zero, suc, ◌+◌, ◌-◌, ◌*◌, ◌≤◌, ◌<◌}
use native.Mathlib.Omega.{arith}
use lib.ListN.{length, get_or, set, length-set}
use borrow.Author.Tests.{eq-eqb, ne_eqb}
use Rattle.orders.specs.Tree.{Path}
use Rattle.definition.specs.Basics.{refused, gives}
use Rattle.definition.specs.Elements.{Table, parent, child}
use Rattle.definition.specs.Rewriting.{mapped_or, climb, trail}
use Rattle.read_element_table.specs.View.{view}
use Rattle.read_element_table.specs.Wellformed.{Lines}
use Rattle.read_element_table.specs.Told.{element_of, length_view, parent_told, child_told}
use Rattle.std.specs.Prelude.{Option as Opt, Some, None, Ok, Err, SomeIff}
use Rattle.std.specs.Option.{unwrap_or}
use Rattle.refusals.specs.declared.Refusal.TheVariants.{Unmapped, Endless}
use Rattle.refusals.specs.Numbers.{number}
use Rattle.plan_mapping.specs.Mapped.{mapped_by, Mapped}
use Rattle.plan_mapping.specs.Backward.{backward, backward_none, backward_set}
use Rattle.plan_mapping.specs.Answers.{climbed, steps_of, Climbed}

-- ── The mapped node, or the element itself ──────────────────────────────────────────────────────────────────

module _ (n : ℕ) (m : List ℕ) (e y : ℕ) (M : Mapped n m) (h : e < n) (q : y ≡ get_or m e 0) where
  unmapped : y ≡ 0 → (e ≡ Option.get_or (mapped_by m e) e) × (e < n)
  unfolding mapped_by element_of
  unmapped z = (rw (← q, z), h)

  mapped_to : (y ≡ 0 → ⊥) → (y - 1 ≡ Option.get_or (mapped_by m e) e) × (y - 1 < n)
  unfolding mapped_by element_of
  mapped_to z = (rw (← q) (go y z), omega (arith, M.low e))
    where
      go : (y : ℕ) → (y ≡ 0 → ⊥) → y - 1 ≡ Option.get_or (element_of y) e
      go zero z = absurd (z refl)
      go (suc k) z = omega arith

  pub mapped_or_same : (o : Opt ℕ) → SomeIff o (1 ≤ y) (y - 1) → (r : ℕ) → r ≡ unwrap_or o e → (r ≡ Option.get_or (mapped_by m e) e) × (r < n)
  mapped_or_same None f r g = rw g (unmapped (omega (arith, f)))
  mapped_or_same (Some x) f r g = rw (g, f.1) (mapped_to (λ z. omega (arith, f.0, z)))

-- ── One step of the climb ───────────────────────────────────────────────────────────────────────────────────

module _ (T : Table) (mapped : ℕ → Option ℕ) where
  no_parent : (f r x : ℕ) (t : Path) → parent T x ≡ none → climb T mapped f r x t ≡ refused 9
  unfolding climb
  no_parent zero r x t q = rw (q, climb)
  no_parent (suc f) r x t q = rw (q, climb)

  no_steps : (r x p : ℕ) (t : Path) → parent T x ≡ some p → climb T mapped 0 r x t ≡ refused 10
  unfolding climb
  no_steps r x p t q = rw (q, climb)

  at_replacement : (f r x p : ℕ) (t : Path) → parent T x ≡ some p → p ≡ r → climb T mapped (suc f) r x t ≡ gives t
  unfolding climb
  at_replacement f r x p t q e = rw (q, climb, eq-eqb p r e)

  one_step : (f r x p : ℕ) (t : Path) → parent T x ≡ some p → (p ≡ r → ⊥) → climb T mapped (suc f) r x t ≡ climb T mapped f r (mapped_or T mapped p) (child T (mapped_or T mapped p) ∷ t)
  unfolding climb
  one_step f r x p t q e = rw (q, climb, ne_eqb p r e)

  trail_none : (x r : ℕ) → x ≡ r → trail T mapped x r ≡ gives []
  unfolding trail
  trail_none x r e = rw (eq-eqb x r e, trail)

  trail_climbs : (x r : ℕ) → (x ≡ r → ⊥) → trail T mapped x r ≡ climb T mapped (length T) r (mapped_or T mapped x) (child T (mapped_or T mapped x) ∷ [])
  unfolding trail
  trail_climbs x r e = rw (ne_eqb x r e, trail)

-- ── The loop ────────────────────────────────────────────────────────────────────────────────────────────────

-- the climb from x₀ to r has come to x, and its k child numbers stand in a
pub record Climbing (n : ℕ) (w m : List ℕ) (x₀ r : ℕ) (a : List ℕ) (x k : ℕ) : Type 0 where
  pub here : x < n
  pub some : 0 < k
  pub few : k ≤ n + 1
  pub long : length a ≡ 2049
  pub rest : (s : List ℕ) → trail (view n w s) (mapped_by m) x₀ r ≡ climb (view n w s) (mapped_by m) (n + 1 - k) r x (backward k a)

-- what the word that names the parent tells
parent_none : (n : ℕ) (w s : List ℕ) (x p : ℕ) → Lines n w → x < n → p ≡ get_or w (8 * x + 1) 0 → p ≡ 0 → parent (view n w s) x ≡ none
unfolding element_of
parent_none n w s x p L h q z = parent_told n w s L x h ∙ rw (← q, z)

parent_some : (n : ℕ) (w s : List ℕ) (x p : ℕ) → Lines n w → x < n → p ≡ get_or w (8 * x + 1) 0 → (p ≡ 0 → ⊥) → parent (view n w s) x ≡ some (p - 1)
unfolding element_of
parent_some n w s x zero L h q z = absurd (z refl)
parent_some n w s x (suc p) L h q z = parent_told n w s L x h ∙ rw (← q) (ap {B = Option ℕ} some (omega arith))

pub parent_element : (n : ℕ) (w : List ℕ) (x p : ℕ) → Lines n w → x < n → p ≡ get_or w (8 * x + 1) 0 → p - 1 < n
parent_element n w x p L h q = omega (arith, L.before x h)

pub parent_before : (n : ℕ) (w : List ℕ) (x p : ℕ) → Lines n w → x < n → p ≡ get_or w (8 * x + 1) 0 → (p ≡ 0 → ⊥) → p - 1 < x
parent_before n w x zero L h q z = absurd (z refl)
parent_before n w x (suc p) L h q z = omega (arith, L.before x h)

module _ (n : ℕ) (w m : List ℕ) (x₀ r : ℕ) (a : List ℕ) where
  pub climbing_same : x₀ ≡ r → length a ≡ 2049 → Climbed n w m x₀ r (Ok 0) a
  unfolding climbed steps_of
  climbing_same e l = record { trail = λ s. rw (backward_none a, trail_none (view n w s) (mapped_by m) x₀ r e); few = omega arith; room = omega arith; long = l }

  module _ (L : Lines n w) where
    pub climbing_start : (y : ℕ) → (x₀ ≡ r → ⊥) → y ≡ Option.get_or (mapped_by m x₀) x₀ → y < n → length a ≡ 2049 → Climbing n w m x₀ r (set a 0 (get_or w (8 * y + 2) 0)) y 1
    unfolding mapped_or
    climbing_start y e q h l = record { here = h; some = omega arith; few = omega arith; long = length-set a 0 _ ∙ l; rest = λ s. first s }
      where
        first : (s : List ℕ) → trail (view n w s) (mapped_by m) x₀ r ≡ climb (view n w s) (mapped_by m) (n + 1 - 1) r y (backward 1 (set a 0 (get_or w (8 * y + 2) 0)))
        first s =
            let f : n + 1 - 1 ≡ n = omega arith in
            let b : backward 1 (set a 0 (get_or w (8 * y + 2) 0)) ≡ get_or w (8 * y + 2) 0 ∷ [] =
            backward_set a 0 (get_or w (8 * y + 2) 0) (omega arith) ∙ rw (backward_none a) in
            rw (trail_climbs (view n w s) (mapped_by m) x₀ r e, length_view n w s, ← q, child_told n w s L y h, f, b)

    module _ (x k p : ℕ) (C : Climbing n w m x₀ r a x k) (q : p ≡ get_or w (8 * x + 1) 0) where
      pub climbing_9 : p ≡ 0 → Climbed n w m x₀ r (Err Unmapped) a
      unfolding climbed steps_of number
      climbing_9 z =
          record {
            trail = λ s. sym (C.rest s ∙ no_parent (view n w s) (mapped_by m) (n + 1 - k) r x (backward k a) (parent_none n w s x p L C.here q z));
            few = omega arith;
            room = omega arith;
            long = C.long;
          }

      pub climbing_10 : (p ≡ 0 → ⊥) → n < k → Climbed n w m x₀ r (Err Endless) a
      unfolding climbed steps_of number
      climbing_10 z l =
          let f : n + 1 - k ≡ 0 = omega arith in
          record {
            trail = λ s. sym (C.rest s ∙ rw f (no_steps (view n w s) (mapped_by m) r x (p - 1) (backward k a) (parent_some n w s x p L C.here q z)));
            few = omega arith;
            room = omega arith;
            long = C.long;
          }

      pub climbing_done : (p ≡ 0 → ⊥) → k ≤ n → p - 1 ≡ r → Climbed n w m x₀ r (Ok k) a
      unfolding climbed steps_of
      climbing_done z l e =
          let f : n + 1 - k ≡ suc (n - k) = omega arith in
          record {
            trail = λ s. sym (C.rest s ∙ rw f (at_replacement (view n w s) (mapped_by m) (n - k) r x (p - 1) (backward k a) (parent_some n w s x p L C.here q z) e));
            few = l;
            room = omega (arith, C.long, L.few);
            long = C.long;
          }

      pub climbing_next : (y : ℕ) → (p ≡ 0 → ⊥) → k ≤ n → (p - 1 ≡ r → ⊥) → y ≡ Option.get_or (mapped_by m (p - 1)) (p - 1) → y < n → Climbing n w m x₀ r (set a k (get_or w (8 * y + 2) 0)) y (k + 1)
      unfolding mapped_or
      climbing_next y z l e g h = record { here = h; some = omega arith; few = omega arith; long = length-set a k _ ∙ C.long; rest = λ s. next s }
        where
          next : (s : List ℕ) → trail (view n w s) (mapped_by m) x₀ r ≡ climb (view n w s) (mapped_by m) (n + 1 - (k + 1)) r y (backward (k + 1) (set a k (get_or w (8 * y + 2) 0)))
          next s =
              let f : n + 1 - k ≡ suc (n - k) = omega arith in
              let f' : n + 1 - (k + 1) ≡ n - k = omega arith in
              let b : k < length a = omega (arith, C.long, L.few) in
              C.rest s
              ∙ rw (f, one_step (view n w s) (mapped_by m) (n - k) r x (p - 1) (backward k a) (parent_some n w s x p L C.here q z) e, ← g, child_told n w s L y h, f', backward_set a k (get_or w (8 * y + 2) 0) b)
