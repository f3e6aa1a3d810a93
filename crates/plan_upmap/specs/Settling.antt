-- What the answers about a note's element mean.
-- Assumes nothing.
use Rattle.std.specs.Prelude.{List, ◌≡◌, ℕ, ◌<◌, Option, Result, Ok, Err}
use Rattle.definition.specs.Rewriting.{nearest, note_from, settle}
use Rattle.read_element_table.specs.View.{view}
use Rattle.refusals.specs.declared.Refusal.{Refusal}
use Rattle.refusals.specs.Numbers.{answered}
use Rattle.plan_mapping.specs.Mapped.{mapped_by}
use Rattle.plan_upmap.specs.Answers.{Within}
use Rattle.orders.specs.Lists.{meant}

-- the nearest mapped ancestor of e, or e
pub record Nearest (n : ℕ) (table map : List ℕ) (e : ℕ) (answer : Option ℕ) : Type 0 where
  pub ancestor : (source : List ℕ) → meant answer ≡ nearest (view n table source) (mapped_by map) e
  pub within : Within n answer

-- where it settles is one of n elements
abbrev pub SettledWithin : ℕ → Result ℕ Refusal → Type 0
SettledWithin n (Ok e) = e < n
SettledWithin n (Err r) = Unit

-- an element where it settles is one of n
pub settled_at_lem : {n : ℕ} {answer : Result ℕ Refusal} {e : ℕ} → SettledWithin n answer → answer ≡ Ok e → e < n
settled_at_lem h q = rw q at h

-- one move of e from its mapped ancestor a
pub record OneMove (n : ℕ) (table source map : List ℕ) (a e : ℕ) (answer : Result ℕ Refusal) : Type 0 where
  pub move : answered answer ≡ note_from (view n table source) (mapped_by map) a e
  pub within : SettledWithin n answer

-- where a note on e settles
pub record SettledAt (n : ℕ) (table source map : List ℕ) (e : ℕ) (answer : Result ℕ Refusal) : Type 0 where
  pub place : answered answer ≡ settle (view n table source) (mapped_by map) n e
  pub within : SettledWithin n answer
