-- The loop of `place_below`: what is left of the place of the element where it stands, and the child numbers passed.
-- Assumes nothing.
use mathlib.Core.List.{List, [], ◌∷◌, ◌++◌, append-nil, append_assoc}
use mathlib.Core.Option.{Option, none, some, map}
use mathlib.Core.Path.{◌≡◌, refl, sym, ap, ◌∙◌}
use Prim.Native.Nat.{ℕ, zero, suc, ◌+◌, ◌-◌, ◌*◌, ◌≤◌, ◌<◌}
use native.Mathlib.Omega.{arith}
use lib.ListN.{length, get_or, set, length-set}
use Rattle.orders.specs.Tree.{Path}
use Rattle.definition.specs.Elements.{place_below}
use Rattle.read_element_table.specs.View.{view}
use Rattle.read_element_table.specs.Wellformed.{Lines}
use Rattle.read_element_table.specs.Told.{parent_below, deep}
use Rattle.std.specs.Prelude.{Some, None}
use Rattle.plan_mapping.specs.Backward.{backward, backward_none, backward_set}
use Rattle.plan_mapping.specs.Paths.{place_here, place_root, place_up}
use Rattle.plan_mapping.specs.Answers.{below, depth_of, Placed}

-- the way up from e has come to `at`, and its k child numbers stand in a
pub record Placing (n : ℕ) (w : List ℕ) (x e : ℕ) (a : List ℕ) (at k : ℕ) : Type 0 where
  pub here : at < n
  pub deeper : get_or w (8 * at + 3) 0 + k ≡ get_or w (8 * e + 3) 0
  pub few : k ≤ 64
  pub long : length a ≡ 64
  pub rest : (s : List ℕ) → place_below (view n w s) x e ≡ map (λ q. q ++ backward k a) (place_below (view n w s) x at)

behind_none : (o : Option Path) → o ≡ map (λ q. q ++ []) o
behind_none none = refl
behind_none (some q) = ap {B = Option Path} some (sym (append-nil q))

behind_both : (o : Option Path) (c : ℕ) (r : Path) → map (λ q. q ++ r) (map (λ q. q ++ (c ∷ [])) o) ≡ map (λ q. q ++ (c ∷ r)) o
behind_both none c r = refl
behind_both (some q) c r = ap {B = Option Path} some (append_assoc q (c ∷ []) r)

module _ (n : ℕ) (w : List ℕ) (x e : ℕ) (L : Lines n w) (he : e < n) (a : List ℕ) where
  pub placing_start : length a ≡ 64 → Placing n w x e a e 0
  placing_start l = record { here = he; deeper = omega arith; few = omega arith; long = l; rest = λ s. rw (backward_none a) (behind_none (place_below (view n w s) x e)) }

  module _ (at k : ℕ) (C : Placing n w x e a at k) (hx : x < n) where
    pub placing_done : at ≡ x → Placed n w x e (Some k) a
    unfolding below depth_of
    placing_done q =
        record {
          place = λ s. sym (C.rest s ∙ rw (place_here n w s L x at hx C.here q));
          room = omega (arith, C.few, C.long);
          long = C.long;
        }

    module _ (p : ℕ) (q : p ≡ get_or w (8 * at + 1) 0) (z : at ≡ x → ⊥) where
      pub placing_none : p ≡ 0 → Placed n w x e None a
      unfolding below depth_of
      placing_none y =
          record {
            place = λ s. sym (C.rest s ∙ rw (place_root n w s L x at hx C.here z (sym q ∙ y)));
            room = omega arith;
            long = C.long;
          }

      pub placing_room : (p ≡ 0 → ⊥) → k < 64
      placing_room y = go p refl
        where
          go : (j : ℕ) → p ≡ j → k < 64
          go zero g = absurd (y g)
          go (suc j) g =
              let u : get_or w (8 * at + 1) 0 ≡ suc j = sym q ∙ g in
              omega (arith, C.deeper, L.shallow e he, (L.below at j C.here u).0, deep n w L j (parent_below n w L at j C.here u))

      pub placing_next : (p ≡ 0 → ⊥) → Placing n w x e (set a k (get_or w (8 * at + 2) 0)) (p - 1) (k + 1)
      placing_next y = go p refl
        where
          go : (j : ℕ) → p ≡ j → Placing n w x e (set a k (get_or w (8 * at + 2) 0)) (p - 1) (k + 1)
          go zero g = absurd (y g)
          go (suc j) g =
              let u : get_or w (8 * at + 1) 0 ≡ suc j = sym q ∙ g in
              let v : p - 1 ≡ j = omega arith in
              let b = (L.below at j C.here u).0 in
              let l : k < length a = omega (arith, C.long, placing_room y) in
              rw v
              (record {
                here = parent_below n w L at j C.here u;
                deeper = omega (arith, C.deeper);
                few = omega (arith, placing_room y);
                long = length-set a k _ ∙ C.long;
                rest = λ s. C.rest s ∙ rw (place_up n w s L x at hx C.here j z u, backward_set a k (get_or w (8 * at + 2) 0) l) (behind_both (place_below (view n w s) x j) (get_or w (8 * at + 2) 0) (backward k a));
              })
