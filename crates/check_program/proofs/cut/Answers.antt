-- `cut` meets its contract.
-- Assumes nothing.
use Rattle.check_program.proofs.Ways.{parts_claimed}
use native.Mathlib.Omega.{arith}
use lib.ListN.{length}
use Prim.Native.Nat.{◌+◌, ◌-◌}
use Rattle.check_program.proofs.cut.Goals as goal

pub returns : goal.returns
returns c =
    let l = c.args.lists.now in
    let t = c.args.texts.now in
    let i = c.args.old_kinds + c.args.old_measures in
    let j = i + c.args.new_kinds in
    let k = j + c.args.new_measures in
    let m = k + c.args.pairs in
    let n = m + c.args.pairs in
    parts_claimed l t c.args.old_kinds c.args.old_measures c.args.old_text c.args.new_kinds c.args.new_measures c.args.pairs (i - c.args.old_kinds) (j - i) (k - j) (length t - c.args.old_text) (m - k) (n - m) (length l - n) (omega arith) (omega arith) (omega arith) (omega arith) (omega arith) (omega arith) (omega arith)
