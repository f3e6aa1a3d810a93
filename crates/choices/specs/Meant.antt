-- What the record of choices means: the definition's choices, and by what they are refused.
-- Assumes nothing.
use Rattle.std.specs.Prelude.{◌≡◌, ◌≤◌, ◌<◌, Ok, Err}
use Rattle.std.proofs.Math.Path.{refl}
use borrow.Author.Tests.{lt-ltb, le-ltb}
use Rattle.definition.specs.Basics.{◌>>=◌, refuse}
use Rattle.definition.specs.Choices as definition
use Rattle.refusals.specs.Numbers.{number, answered}
use Rattle.refusals.specs.declared.Refusal.TheVariants.{Edge, Stronger}
use Rattle.choices.specs.declared.Choices.{Choices}

-- the definition's choices
abbrev pub meant : Choices → definition.Choices
meant c = record { edge = c.edge; stronger = c.stronger }

-- ── The judgement ───────────────────────────────────────────────────────────────────────────────────────────

module _ (c : Choices) where
  pub no_such_rule : 1 < c.edge → answered (Err Edge) ≡ definition.chosen (meant c)
  unfolding definition.chosen refuse ◌>>=◌ answered number
  no_such_rule h = rw (lt-ltb 1 c.edge h) refl

  pub neither_on_nor_off : c.edge ≤ 1 → 1 < c.stronger → answered (Err Stronger) ≡ definition.chosen (meant c)
  unfolding definition.chosen refuse ◌>>=◌ answered number
  neither_on_nor_off h k = rw (le-ltb 1 c.edge h, lt-ltb 1 c.stronger k) refl

  pub rightly_chosen : c.edge ≤ 1 → c.stronger ≤ 1 → answered (Ok tt) ≡ definition.chosen (meant c)
  unfolding definition.chosen refuse ◌>>=◌ answered
  rightly_chosen h k = rw (le-ltb 1 c.edge h, le-ltb 1 c.stronger k) refl
