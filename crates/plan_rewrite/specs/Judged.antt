-- Line 6 of a rewritten change, by its number.
-- Assumes nothing.
use Rattle.std.specs.Prelude.{cond, not, ◌≡◌, refl, ℕ, zero, suc, ◌≤◌, ◌<◌, length, eqb}
use mathlib.Core.List.{List, head_d}
use Rattle.std.proofs.Common.{arith}
use Rattle.std.proofs.Math.Dec.{eqb-suc-zero}
use Rattle.orders.specs.Lists.{All}
use Rattle.definition.specs.Basics.{any, among}
use Rattle.definition.specs.Refusals.{wrong_count, ruled_start, misplaced, wrong_call}
use Rattle.definition.specs.Recording.{call}
use Rattle.read_element_table.specs.View.{view}
use Rattle.read_calls.specs.Fits.{word_fits, call_fits, judged}
use Rattle.record_rewritten.specs.Stated.{change_by}

-- its counts are right, and it is judged by its target and, of a call 2, the replacement, of a run, the end
pub wrong_by : (n : ℕ) (w s : List ℕ) (op x y z : ℕ) (new : List ℕ) → op ≤ 5 → x < n → y < n → (op ≡ 2 → z < n) → All (λ e. e < n) new
    → wrong_call (view n w s) (call (change_by op x y z new)) ≡ not (call_fits (view n w s) op x (cond (eqb op 2) z y))
unfolding change_by call word_fits call_fits misplaced wrong_count ruled_start among any head_d
wrong_by n w s zero x y z new h hx hy hz hn = judged n w s (call (change_by 0 x y z new)) (hx, hn)
wrong_by n w s (suc zero) x y z new h hx hy hz hn = judged n w s (call (change_by 1 x y z new)) (hx, hn)
wrong_by n w s (suc (suc zero)) x y z new h hx hy hz hn = judged n w s (call (change_by 2 x y z new)) (hx, (hz refl, tt))
wrong_by n w s (suc (suc (suc zero))) x y z new h hx hy hz hn = judged n w s (call (change_by 3 x y z new)) (hx, tt)
wrong_by n w s (suc (suc (suc (suc zero)))) x y z new h hx hy hz hn = judged n w s (call (change_by 4 x y z new)) (hx, hn)
wrong_by n w s (suc (suc (suc (suc (suc zero))))) x y z new h hx hy hz hn = rw (eqb-suc-zero (length new)) at (judged n w s (call (change_by 5 x y z new)) (hx, (hy, hn)))
wrong_by n w s (suc (suc (suc (suc (suc (suc op)))))) x y z new h hx hy hz hn = absurd (omega arith)
