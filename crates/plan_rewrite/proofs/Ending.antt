-- Each answer of `upmap_ends`.
-- Assumes nothing.
use mathlib.Core.List.{List}
use mathlib.Core.Path.{◌≡◌, sym, ◌∙◌}
use Prim.Native.Nat.{ℕ, ◌+◌, ◌≤◌, ◌<◌}
use native.Mathlib.Omega.{arith}
use borrow.Author.Tests.{eq-eqb, ne_eqb}
use Rattle.definition.specs.Basics.{gives, ◌>>=◌}
use Rattle.definition.specs.Rewriting.{moved}
use Rattle.read_element_table.specs.View.{view}
use Rattle.plan_mapping.specs.Mapped.{mapped_by}
use Rattle.std.specs.Prelude.{Result, Ok, Err}
use Rattle.refusals.specs.declared.Refusal.{Refusal}
use Rattle.plan_upmap.specs.declared.Moved.{Moved}
use Rattle.plan_upmap.specs.Answers.{moved_by, MovedWithin, MovedTo}
use Rattle.plan_rewrite.specs.Rewritten.{moved_ends}
use Rattle.plan_rewrite.specs.Answers.{ends_by, MovedEnds}

-- where an element goes is an element, after at most n steps
pub moved_within : {n : ℕ} {a : Result Moved Refusal} {m : Moved} → MovedWithin n a → a ≡ Ok m → (m.element < n) × (m.steps ≤ n)
moved_within h q = rw q at h

module _ (n : ℕ) (w s m : List ℕ) (x r op t e : ℕ) (a : Result Moved Refusal) (M : MovedTo n w s m x r t a) where
  pub ends_refused : (k : Refusal) → a ≡ Err k → MovedEnds n w s m x r op t e (Err k)
  unfolding ends_by moved_ends moved_by ◌>>=◌
  ends_refused k z = record { ends = rw (← M.move, z); within = tt }

  module _ (p : Moved) (z : a ≡ Ok p) where
    first_moves : moved (view n w s) (mapped_by m) x r t ≡ gives (p.element, p.steps)
    unfolding moved_by
    first_moves = sym M.move ∙ rw z

    pub ends_one : (op ≡ 5 → ⊥) → MovedEnds n w s m x r op t e (Ok (record { target = p.element; end = p.element; steps = p.steps }))
    unfolding ends_by moved_ends ◌>>=◌
    ends_one y = let h = moved_within M.within z in record { ends = rw (first_moves, ne_eqb op 5 y); within = (h.0, h.0, omega (arith, h.1)) }

    module _ (y : op ≡ 5) (b : Result Moved Refusal) (N : MovedTo n w s m x r e b) where
      pub ends_second_refused : (l : Refusal) → b ≡ Err l → MovedEnds n w s m x r op t e (Err l)
      unfolding ends_by moved_ends moved_by ◌>>=◌
      ends_second_refused l v = record { ends = rw (first_moves, eq-eqb op 5 y, ← N.move, v); within = tt }

      pub ends_two : (q : Moved) → b ≡ Ok q → MovedEnds n w s m x r op t e (Ok (record { target = p.element; end = q.element; steps = p.steps + q.steps }))
      unfolding ends_by moved_ends moved_by ◌>>=◌
      ends_two q v =
          let h = moved_within M.within z in
          let g = moved_within N.within v in
          record { ends = rw (first_moves, eq-eqb op 5 y, ← N.move, v); within = (h.0, g.0, omega (arith, h.1, g.1)) }
