-- The nearest mapped ancestor, one move, and the loop of `upmap_element`.
-- Assumes nothing.
use mathlib.Core.Bool.{true, false}
use mathlib.Core.List.{List, [], ◌∷◌}
use mathlib.Core.Option
use mathlib.Core.Option.{Option, none, some}
use mathlib.Core.Path.{◌≡◌, refl, sym, ◌∙◌}
use Prim.Native.Nat.{ℕ, zero, suc, ◌+◌, ◌-◌, ◌*◌, ◌<◌}
use native.Mathlib.Numerals.{add-one}
use native.Mathlib.Omega.{arith}
use lib.ListN.{length, get_or, take}
use lib.Dec.{eqb, eqb-zero-suc, eqb-suc-suc}
use borrow.Author.Tests.{eq-eqb, ne_eqb}
use Rattle.definition.specs.Basics.{refused, gives, ◌>>=◌, refuse, or_refuse, is_some, first}
use Rattle.definition.specs.Elements.{Table, row, parent}
use Rattle.definition.specs.Rewriting.{mapped_or, nearest, is_parent, note_from, settle}
use Rattle.read_element_table.specs.View.{view, field, line_from, row_at}
use Rattle.read_element_table.specs.Wellformed.{Lines}
use Rattle.read_element_table.specs.Told.{element_of, row_view, parent_below, parent_told}
use Rattle.std.specs.Prelude.{Option as Opt, Some, None, Result, Ok, Err}
use Rattle.std.specs.Option.{ok_or}
use Rattle.refusals.specs.declared.Refusal.{Refusal}
use Rattle.refusals.specs.declared.Refusal.TheVariants.{Unmapped, Endless}
use Rattle.refusals.specs.Numbers.{number, answered}
use Rattle.plan_mapping.specs.Mapped.{mapped_by}
use Rattle.plan_mapping.specs.Backward.{backward, backward_front}
use Rattle.plan_mapping.specs.Answers.{below, Placed}
use Rattle.plan_upmap.specs.Answers.{Within, Landed}
use Rattle.plan_mapping.proofs.Told.{nothing}
use Rattle.plan_upmap.specs.Settling.{Nearest, SettledWithin, settled_at_lem, OneMove, SettledAt}
use Rattle.orders.specs.Lists.{meant}

-- ── The nearest mapped ancestor ─────────────────────────────────────────────────────────────────────────────

module _ (n : ℕ) (w s : List ℕ) (L : Lines n w) (e : ℕ) (h : e < n) where
  line_root : get_or w (8 * e + 1) 0 ≡ 0 → (row (view n w s) e).line ≡ e ∷ []
  unfolding row_at field line_from
  line_root z = rw (row_view n w s e h) (go (get_or w (8 * e + 3) 0) (L.root e h z).0)
    where
      go : (d : ℕ) → d ≡ 1 → line_from w s d e ≡ e ∷ []
      go d q = rw (q, z, line_from)

  line_child : (p : ℕ) → get_or w (8 * e + 1) 0 ≡ suc p → (row (view n w s) e).line ≡ e ∷ (row (view n w s) p).line
  unfolding row_at field line_from
  line_child p z = rw (row_view n w s e h, row_view n w s p (parent_below n w L e p h z)) (go (get_or w (8 * e + 3) 0) (L.below e p h z).0)
    where
      go : (d : ℕ) → d ≡ suc (get_or w (8 * p + 3) 0) → line_from w s d e ≡ e ∷ line_from w s (get_or w (8 * p + 3) 0) p
      go d q = rw (q, line_from, z)

  line_starts : (l : List ℕ) × ((row (view n w s) e).line ≡ e ∷ l)
  line_starts = go (get_or w (8 * e + 1) 0) refl
    where
      go : (k : ℕ) → get_or w (8 * e + 1) 0 ≡ k → (l : List ℕ) × ((row (view n w s) e).line ≡ e ∷ l)
      go zero z = (_, line_root z)
      go (suc p) z = (_, line_child p z)

is_mapped : (m : List ℕ) (e v : ℕ) → v ≡ get_or m e 0 → (v ≡ 0 → ⊥) → is_some (mapped_by m e) ≡ true
unfolding mapped_by element_of is_some
is_mapped m e zero q z = absurd (z refl)
is_mapped m e (suc v) q z = rw (← q)

not_mapped : (m : List ℕ) (e v : ℕ) → v ≡ get_or m e 0 → v ≡ 0 → is_some (mapped_by m e) ≡ false
unfolding mapped_by element_of is_some
not_mapped m e v q z = rw (← q, z)

-- the way up from e has come to `at`
pub record Rising (n : ℕ) (w m : List ℕ) (e at : ℕ) : Type 0 where
  pub here : at < n
  pub rest : (s : List ℕ) → nearest (view n w s) (mapped_by m) e ≡ nearest (view n w s) (mapped_by m) at

pub rising_start : (n : ℕ) (w m : List ℕ) (e : ℕ) → e < n → Rising n w m e e
rising_start n w m e h = record { here = h; rest = λ s. refl }

module _ (n : ℕ) (w m : List ℕ) (e at v : ℕ) (L : Lines n w) (R : Rising n w m e at) (q : v ≡ get_or m at 0) where
  pub rising_found : (v ≡ 0 → ⊥) → Nearest n w m e (Some at)
  unfolding nearest first
  rising_found z = record { ancestor = λ s. sym (R.rest s ∙ rw ((line_starts n w s L at R.here).1, is_mapped m at v q z)); within = R.here }

  module _ (z : v ≡ 0) (p : ℕ) (g : p ≡ get_or w (8 * at + 1) 0) where
    pub rising_none : p ≡ 0 → Nearest n w m e None
    unfolding nearest first
    rising_none y = record { ancestor = λ s. sym (R.rest s ∙ rw (line_root n w s L at R.here (sym g ∙ y), not_mapped m at v q z)); within = tt }

    pub rising_next : (p ≡ 0 → ⊥) → Rising n w m e (p - 1)
    unfolding nearest first
    rising_next y = go p refl
      where
        go : (j : ℕ) → p ≡ j → Rising n w m e (p - 1)
        go zero x = absurd (y x)
        go (suc j) x =
            let u : get_or w (8 * at + 1) 0 ≡ suc j = sym g ∙ x in
            let d : p - 1 ≡ j = omega arith in
            rw d (record { here = parent_below n w L at j R.here u; rest = λ s. R.rest s ∙ rw (line_child n w s L at R.here j u, not_mapped m at v q z) })

-- ── One move ────────────────────────────────────────────────────────────────────────────────────────────────

-- the word k that names the parent of y, held against a
parent_word : (T : Table) (mapped : ℕ → Option ℕ) (a y k : ℕ) → parent T y ≡ element_of k → is_parent T mapped a y ≡ eqb k (suc a)
unfolding is_parent element_of
parent_word T mapped a y zero q = rw (q, is_parent, eqb-zero-suc a)
parent_word T mapped a y (suc k) q = rw (q, is_parent, eqb-suc-suc k a)

module _ (n : ℕ) (w s m : List ℕ) (a e y : ℕ) (L : Lines n w) (hy : y < n) (q : y ≡ Option.get_or (mapped_by m a) a) (k : ℕ) (g : k ≡ get_or w (8 * y + 1) 0) where
  held : is_parent (view n w s) (mapped_by m) a y ≡ eqb k (a + 1)
  held = rw (add-one a) (parent_word (view n w s) (mapped_by m) a y k (parent_told n w s L y hy ∙ rw (← g)))

  pub move_stays : k ≡ a + 1 → OneMove n w s m a e (Err Endless)
  unfolding number answered note_from mapped_or refuse ◌>>=◌
  move_stays z = record { move = rw (← q, held, eq-eqb k (a + 1) z); within = tt }

  module _ (z : k ≡ a + 1 → ⊥) (b : List ℕ) (o : Opt ℕ) (P : Placed n w a e o b) where
    pub move_elsewhere : {p : Result ℕ Refusal} (v : Refusal) → p ≡ ok_or o Unmapped → p ≡ Err v → OneMove n w s m a e (Err v)
    unfolding number answered note_from mapped_or refuse or_refuse ◌>>=◌ below
    move_elsewhere v g' h = let (x, u) = nothing o (sym g' ∙ h) in record { move = rw (← q, held, ne_eqb k (a + 1) z, ← (P.place s), x, u); within = tt }

    module _ (d : ℕ) (x : o ≡ Some d) (f : Opt ℕ) (G : Landed n w s e y (backward (length (take d b)) (take d b)) f) where
      moves : note_from (view n w s) (mapped_by m) a e ≡ or_refuse 9 (meant f)
      unfolding note_from mapped_or refuse or_refuse ◌>>=◌ below
      moves = rw (← q, held, ne_eqb k (a + 1) z, ← (P.place s), x, ← (backward_front d b)) (sym (G.landing (mapped_by m)))

      pub move_lands : OneMove n w s m a e (ok_or f Unmapped)
      unfolding number answered or_refuse
      move_lands = record { move = landed f ∙ sym moves; within = lands f G.within }
        where
          landed : (f : Opt ℕ) → answered (ok_or f Unmapped) ≡ or_refuse 9 (meant f)
          landed (Some to) = refl
          landed None = refl

          lands : (f : Opt ℕ) → Within n f → SettledWithin n (ok_or f Unmapped)
          lands (Some to) h = h
          lands None h = tt

-- ── Moves until none is mapped ──────────────────────────────────────────────────────────────────────────────

module _ (T : Table) (mapped : ℕ → Option ℕ) where
  settle_none : (k e : ℕ) → nearest T mapped e ≡ none → settle T mapped k e ≡ gives e
  unfolding settle
  settle_none zero e q = rw (q, settle)
  settle_none (suc k) e q = rw (q, settle)

  settle_ten : (e a : ℕ) → nearest T mapped e ≡ some a → settle T mapped 0 e ≡ refused 10
  unfolding settle
  settle_ten e a q = rw (q, settle)

  settle_on : (k j e a : ℕ) → k ≡ suc j → nearest T mapped e ≡ some a → settle T mapped k e ≡ (note_from T mapped a e >>= λ to. settle T mapped j to)
  unfolding settle
  settle_on k j e a h q = rw (h, q, settle)

-- a note on e has come to `at`, and `left` moves are left
pub record Settling (n : ℕ) (w s m : List ℕ) (e at left : ℕ) : Type 0 where
  pub here : at < n
  pub rest : settle (view n w s) (mapped_by m) n e ≡ settle (view n w s) (mapped_by m) left at

pub settling_start : (n : ℕ) (w s m : List ℕ) (e : ℕ) → e < n → Settling n w s m e e n
settling_start n w s m e h = record { here = h; rest = refl }

module _ (n : ℕ) (w s m : List ℕ) (e at left : ℕ) (S : Settling n w s m e at left) (f : Opt ℕ) (N : Nearest n w m at f) where
  pub settling_done : f ≡ None → SettledAt n w s m e (Ok at)
  unfolding answered
  settling_done z = record { place = sym (S.rest ∙ settle_none (view n w s) (mapped_by m) left at (sym (N.ancestor s) ∙ rw z)); within = S.here }

  module _ (a : ℕ) (z : f ≡ Some a) where
    pub settling_10 : left ≡ 0 → SettledAt n w s m e (Err Endless)
    unfolding number answered
    settling_10 l = record { place = sym (S.rest ∙ rw l (settle_ten (view n w s) (mapped_by m) at a (sym (N.ancestor s) ∙ rw z))); within = tt }

    module _ (l : left ≡ 0 → ⊥) (o : Result ℕ Refusal) (M : OneMove n w s m a at o) where
      onward : settle (view n w s) (mapped_by m) left at ≡ (answered o >>= λ to. settle (view n w s) (mapped_by m) (left - 1) to)
      onward =
          rw M.move (settle_on (view n w s) (mapped_by m) left (left - 1) at a (go left l) (sym (N.ancestor s) ∙ rw z))
        where
          go : (k : ℕ) → (k ≡ 0 → ⊥) → k ≡ suc (k - 1)
          go zero x = absurd (x refl)
          go (suc k) x = omega arith

      pub settling_refused : (x : Refusal) → o ≡ Err x → SettledAt n w s m e (Err x)
      unfolding answered ◌>>=◌
      settling_refused x y = record { place = sym (S.rest ∙ (onward ∙ rw y)); within = tt }

      pub settling_next : (to : ℕ) → o ≡ Ok to → Settling n w s m e to (left - 1)
      unfolding answered ◌>>=◌
      settling_next to y = record { here = settled_at_lem M.within y; rest = S.rest ∙ (onward ∙ rw y) }
