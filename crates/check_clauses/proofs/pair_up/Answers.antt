-- `pair_up` meets its contract.
use Rattle.std.proofs.Common.{rules, length-append}
use Rattle.std.proofs.lemmas.Slice.Zip.{zip_turn, zip_end}
use native.Mathlib.Omega.{arith}
use Rattle.check_clauses.proofs.Turns.{pairing_start, pairing_twice, pairing_next, pairing_end, below_at}
use Rattle.check_clauses.proofs.pair_up.Goals as goal

pub loop-x-init : goal.loop-x-init
loop-x-init c = pairing_start _ _ _

pub returns-then-partners-y-ne0 : goal.returns-then-partners-y-ne0
returns-then-partners-y-ne0 c =
    let t = zip_turn c.args.pairs.now.olds.now c.args.pairs.now.news.now c.loop-x.yielded c.into_iter-x-iterator.result c.loop-x.x-iterator c.next.new.self c.next.result (search rules) (search rules) c.loop-x.yielded_by _ c.in-Some.is c.next.ensures.steps in
    pairing_twice _ _ _ c.loop-x.invariant c.args.pairs.now.alike t.0 (t.2 0) (t.3 0) c.if-partners-y-ne0.true

pub overflow_add-partners : goal.overflow_add-partners
overflow_add-partners c =
    let t = zip_turn c.args.pairs.now.olds.now c.args.pairs.now.news.now c.loop-x.yielded c.into_iter-x-iterator.result c.loop-x.x-iterator c.next.new.self c.next.result (search rules) (search rules) c.loop-x.yielded_by _ c.in-Some.is c.next.ensures.steps in
    omega (arith, below_at c.args.pairs.now.olds.now _ t.0 (t.2 0) c.requires.0)

pub loop-x-preserved : goal.loop-x-preserved
loop-x-preserved c =
    let t = zip_turn c.args.pairs.now.olds.now c.args.pairs.now.news.now c.loop-x.yielded c.into_iter-x-iterator.result c.loop-x.x-iterator c.next.new.self c.next.result (search rules) (search rules) c.loop-x.yielded_by _ c.in-Some.is c.next.ensures.steps in
    rw (length-append c.loop-x.yielded _) (pairing_next _ _ _ c.loop-x.invariant c.args.pairs.now.alike t.0 (t.2 0) (t.3 0) c.if-partners-y-ne0.false)

pub returns : goal.returns
returns c =
    let t = zip_end c.args.pairs.now.olds.now c.args.pairs.now.news.now c.loop-x.yielded c.into_iter-x-iterator.result c.loop-x.x-iterator c.next.new.self c.next.result (search rules) (search rules) c.loop-x.yielded_by c.in-None.is c.next.ensures.steps in
    pairing_end _ _ _ c.loop-x.invariant c.args.pairs.now.alike (omega (arith, c.args.pairs.now.alike, t))
