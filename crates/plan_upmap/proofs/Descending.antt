-- The loops of `nth_child` and `descend`, and the landing.
-- Assumes nothing.
use mathlib.Core.Bool.{Bool, true, false, and-false}
use mathlib.Core.List.{List, [], ◌∷◌}
use mathlib.Core.Option.{some, bind}
use mathlib.Core.Path.{◌≡◌, refl, sym, ◌∙◌}
use Prim.Native.Nat.{ℕ, zero, suc, ◌+◌, ◌-◌, ◌*◌, ◌≤◌, ◌<◌}
use native.Mathlib.Numerals.{add-one}
use native.Mathlib.Omega.{arith}
use lib.ListN.{length, get_or, get_elem?}
use Rattle.orders.specs.Lists.{All, meant}
use Rattle.orders.specs.ListLaws.{get_none}
use Rattle.orders.specs.Tree.{Path}
use Rattle.definition.specs.Basics.{◌>>=◌, refuse, or_refuse}
use Rattle.definition.specs.Elements.{row, is_node, descend}
use Rattle.definition.specs.Rewriting.{land}
use Rattle.read_element_table.specs.View.{view, field, siblings}
use Rattle.read_element_table.specs.Wellformed.{Wellformed}
use Rattle.read_element_table.specs.Told.{row_view, node_told, child_count, children_told, length_siblings}
use Rattle.std.specs.Prelude.{Option, Some, None, reverse}
use Rattle.std.specs.List.{push}
use Rattle.std.proofs.lemmas.List.{reverse-append}
use Rattle.std.proofs.Common.{take_all}
use Rattle.plan_mapping.specs.Backward.{backward}
use Rattle.plan_upmap.specs.Answers.{within_at, FoundChild, Descended, Landed}

-- ── Siblings ────────────────────────────────────────────────────────────────────────────────────────────────

-- beyond the last there is none
module _ (n : ℕ) (w s : List ℕ) where
  all_here : (k c : ℕ) → 0 < k → All (λ c. c < n) (siblings w s k c) → c < n
  unfolding siblings
  all_here zero c h a = absurd (omega arith)
  all_here (suc k) c h a = a.0

  all_next : (k l c : ℕ) → k ≡ suc l → All (λ c. c < n) (siblings w s k c) → All (λ c. c < n) (siblings w s l (get_or w (8 * c + 6) 0))
  unfolding siblings field
  all_next zero l c h a = absurd (omega arith)
  all_next (suc k) l c h a = let e : l ≡ k = omega arith in rw e a.1

  get_here : (k c : ℕ) → 0 < k → get_elem? (siblings w s k c) 0 ≡ some c
  unfolding siblings
  get_here zero c h = absurd (omega arith)
  get_here (suc k) c h = refl

  get_next : (k l c i j : ℕ) → k ≡ suc l → i ≡ suc j → get_elem? (siblings w s k c) i ≡ get_elem? (siblings w s l (get_or w (8 * c + 6) 0)) j
  unfolding siblings field
  get_next k l c i j h g = rw (h, g)

-- the siblings of element e's first child have come to c, which is the child number j; number i of m is looked for
pub record Siblings (n : ℕ) (w s : List ℕ) (e i c j : ℕ) : Type 0 where
  pub here : c < n
  pub short : j ≤ i
  pub room : i < child_count s e
  pub all : All (λ c. c < n) (siblings w s (child_count s e - j) c)
  pub rest : get_elem? (row (view n w s) e).children i ≡ get_elem? (siblings w s (child_count s e - j) c) (i - j)

module _ (n : ℕ) (w s : List ℕ) (e i m : ℕ) (W : Wellformed n w s) (h : e < n) (g : m ≡ child_count s e) where
  children_are : (row (view n w s) e).children ≡ siblings w s m (suc e)
  children_are = rw g (children_told n w s e h)

  pub no_child_beyond : m ≤ i → FoundChild n w s e i None
  no_child_beyond l = record { child = sym (rw children_are (get_none (siblings w s m (suc e)) i (rw (length_siblings w s m (suc e)) l))); within = tt }

  pub siblings_start : i < m → Siblings n w s e i (e + 1) 0
  siblings_start l =
      let a : All (λ c. c < n) (siblings w s m (suc e)) = rw (← children_are, row_view n w s e h) (W.children e h) in
      let f : child_count s e - 0 ≡ m = omega arith in
      let f' : i - 0 ≡ i = omega arith in
      rw (add-one e)
      (record {
        here = all_here n w s m (suc e) (omega arith) a;
        short = omega arith;
        room = omega arith;
        all = rw f a;
        rest = rw (f, f', children_are);
      })

module _ (n : ℕ) (w s : List ℕ) (e i c j : ℕ) (S : Siblings n w s e i c j) where
  pub siblings_next : (d : ℕ) → j < i → d ≡ get_or w (8 * c + 6) 0 → Siblings n w s e i d (j + 1)
  siblings_next d l q =
      let m : ℕ = child_count s e in
      let r : i < m = S.room in
      let f : m - j ≡ suc (m - (j + 1)) = omega arith in
      let a = all_next n w s (m - j) (m - (j + 1)) c f S.all in
      rw q (record {
        here = all_here n w s (m - (j + 1)) (get_or w (8 * c + 6) 0) (omega arith) a;
        short = omega arith;
        room = r;
        all = a;
        rest = S.rest ∙ get_next n w s (m - j) (m - (j + 1)) c (i - j) (i - (j + 1)) f (omega arith);
      })

  pub siblings_done : i ≤ j → FoundChild n w s e i (Some c)
  siblings_done l =
      let r = S.room in
      let f : i - j ≡ 0 = omega arith in
      record { child = sym (S.rest ∙ rw f (get_here n w s (child_count s e - j) c (omega (arith, S.short)))); within = S.here }

-- ── The way down ────────────────────────────────────────────────────────────────────────────────────────────

-- the way down from r has come to `at`, and of the numbers in a the first are still to be read, backward
pub record Descending (n : ℕ) (w s : List ℕ) (r : ℕ) (a : List ℕ) (at : ℕ) (left : List ℕ) : Type 0 where
  pub here : at < n
  pub rest : descend (view n w s) r (backward (length a) a) ≡ descend (view n w s) at (reverse left)

pub descending_start : (n : ℕ) (w s : List ℕ) (r : ℕ) (a left : List ℕ) → r < n → left ≡ a → Descending n w s r a r left
unfolding backward
descending_start n w s r a left h l = record { here = h; rest = rw (take_all (length a) a (omega arith), l) }

module _ (n : ℕ) (w s : List ℕ) (r : ℕ) (a : List ℕ) (at : ℕ) (left : List ℕ) (D : Descending n w s r a at left) where
  pub descending_done : length left ≡ 0 → Descended n w s r (backward (length a) a) (Some at)
  unfolding descend
  descending_done l = record { element = sym (D.rest ∙ go left l); within = D.here }
    where
      go : (left : List ℕ) → length left ≡ 0 → descend (view n w s) at (reverse left) ≡ some at
      go [] l = refl
      go (x ∷ left) l = absurd (omega arith)

  module _ (i : ℕ) (less : List ℕ) (l : left ≡ push less i) (o : Option ℕ) (F : FoundChild n w s at i o) where
    one_down : descend (view n w s) at (reverse left) ≡ bind (meant o) (λ c. descend (view n w s) c (reverse less))
    unfolding descend
    one_down = rw (l, reverse-append less (i ∷ []), ← F.child)

    pub descending_none : o ≡ None → Descended n w s r (backward (length a) a) None
    unfolding bind
    descending_none z = record { element = sym (D.rest ∙ (one_down ∙ rw z)); within = tt }

    pub descending_next : (c : ℕ) → o ≡ Some c → Descending n w s r a c less
    unfolding bind
    descending_next c z = record { here = within_at n o c F.within z; rest = D.rest ∙ (one_down ∙ rw z) }

-- ── The landing ─────────────────────────────────────────────────────────────────────────────────────────────

module _ (n : ℕ) (w s : List ℕ) (e r : ℕ) (p : Path) (o : Option ℕ) (D : Descended n w s r p o) where
  pub landing_none : o ≡ None → Landed n w s e r p None
  unfolding land or_refuse ◌>>=◌
  landing_none z = record { landing = λ mapped. rw (← D.element, z); within = tt }

  module _ (to : ℕ) (z : o ≡ Some to) (t : Bool) (q : t ≡ is_node (get_or s (3 * suc to) 0)) (he : e < n) where
    below_n : to < n
    below_n = within_at n o to D.within z

    pub landing_on_node : t ≡ true → Landed n w s e r p (Some to)
    unfolding land or_refuse ◌>>=◌ refuse
    landing_on_node y = record { landing = λ mapped. rw (← D.element, z, node_told n w s to below_n, ← q, y, and-false); within = below_n }

    module _ (u : Bool) (g : u ≡ is_node (get_or s (3 * suc e) 0)) (y : t ≡ false) where
      pub landing_refused : u ≡ true → Landed n w s e r p None
      unfolding land or_refuse ◌>>=◌ refuse
      landing_refused x = record { landing = λ mapped. rw (← D.element, z, node_told n w s to below_n, ← q, y, node_told n w s e he, ← g, x); within = tt }

      pub landing_of_token : u ≡ false → Landed n w s e r p (Some to)
      unfolding land or_refuse ◌>>=◌ refuse
      landing_of_token x = record { landing = λ mapped. rw (← D.element, z, node_told n w s e he, ← g, x); within = below_n }
