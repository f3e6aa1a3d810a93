-- `read_tree` meets its contract.
use Rattle.read_spelling.specs.SpellingLaws.{stands_shallow}
use Rattle.check_table.proofs.Reading.{opened, reading_long, reading_end, walk_start, walk_close, walk_owner, walk_refused, walk_next}
use borrow.Author.Rules.{rules}
use native.Mathlib.Omega.{arith}
use Prim.Native.Nat.{◌-◌}
use Rattle.check_table.proofs.read_tree.Goals as goal

pub loop-d-init : goal.loop-d-init
loop-d-init c = walk_start _ _ _ _

pub loop-d-preserved-then-parent-eq0 : goal.loop-d-preserved-then-parent-eq0
loop-d-preserved-then-parent-eq0 c = walk_close c.loop-d.open c.loop-d.invariant (omega arith) c.if-parent-eq0.true

pub returns-in_default : goal.returns-in_default
returns-in_default c = walk_refused c.loop-d.open c.loop-d.invariant c.requires.0 (omega arith) c.if-parent-eq0.false c.element_at.ensures c.in_default.is

pub store-requires : goal.store-requires
store-requires c =
    let v = c.loop-d.invariant in
    let f = opened c.element_at.ensures c.in-Some.is in
    (omega (arith, v.same, f.there), (f.small, (omega (arith, v.few), (omega (arith, f.fits), (omega (arith, walk_owner c.loop-d.open v (c.loop-d.d - 1), v.inside), tt)))))

pub bounds-open-d : goal.bounds-open-d
bounds-open-d c = let f = opened c.element_at.ensures c.in-Some.is in omega (arith, stands_shallow _ _ f.stands)

pub loop-d-preserved : goal.loop-d-preserved
loop-d-preserved c =
    walk_next c.loop-d.open c.loop-d.invariant c.requires.0 (omega arith) c.if-parent-eq0.false c.element_at.ensures c.in-Some.is (omega arith) c.store.ensures

pub returns-then-i-kinds : goal.returns-then-i-kinds
returns-then-i-kinds c = search (reading_long, rules)

pub returns : goal.returns
returns c = search (reading_end, rules)
