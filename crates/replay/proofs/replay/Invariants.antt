-- `replay` is safe and ends: no more cases are counted than were run.
-- Assumes nothing.
use Rattle.std.proofs.Common.{◌≤◌}
use Rattle.replay.proofs.replay.Given as goal

abbrev pub invariant-loop-i : goal.invariant-loop-i
invariant-loop-i g l = (l.missed ≤ l.i-counter) × (l.same ≤ l.i-counter) × (l.refused ≤ l.i-counter) × (l.whole ≤ l.i-counter)
