-- A drawn call as the code holds it, and the call that it is.
-- Assumes nothing.
use Rattle.std.specs.Prelude.{◌≡◌, [], ◌∷◌, ◌≤◌, take}
use Rattle.definition.specs.Refusals.{Call}
use Rattle.load_draws.specs.declared.DrawnCall.{DrawnCall}

-- the call: the first `count` of its two places are listed
unfoldable pub call_of : DrawnCall → Call
call_of r = record { operation = r.operation; target = r.target; listed = take r.count (r.first ∷ r.second ∷ []); rule = r.rule }

-- r is the call c
pub record Called (r : DrawnCall) (c : Call) : Type 0 where
  pub call : call_of r ≡ c
  pub few : r.count ≤ 2
