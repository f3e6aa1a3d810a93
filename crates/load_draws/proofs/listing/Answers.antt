-- `listing` meets its contract: its two places hold what is listed.
use mathlib.Core.Path.{◌∙◌, ap}
use native.Mathlib.Omega.{arith}
use Rattle.std.specs.Option.{unwrap_or}
use Rattle.load_draws.proofs.Ways.{listed_in}
use Rattle.load_draws.proofs.listing.Goals as goal

pub returns : goal.returns
returns c =
    listed_in _ _ _ _ _ _ _ c.requires (c.copied.ensures ∙ c.first.ensures.value) c.unwrap_or.ensures
    (c.unwrap_or-2.ensures ∙ ap (λ o. unwrap_or o 0) c.copied-2.ensures ∙ c.get.ensures.lookup.4 (omega arith) 0)
