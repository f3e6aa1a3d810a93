-- `fill_elements` meets its contract. The elements passed are written, and those on the stack are not closed yet.
use native.Mathlib.Omega.{arith}
use Rattle.read_element_table.specs.Next.{none_stands, one_stands}
use Rattle.read_element_table.proofs.Writing.{writing_start, writing_close, writing_refused, writing_long, writing_end, writing_table, writing_rows, writing_shallow, writing_over, writing_token, writing_node}
use Rattle.read_element_table.proofs.fill_elements.Goals as goal

pub loop-d-init : goal.loop-d-init
loop-d-init c = writing_start _ _ _ _ _ _ c.new-x.ensures

pub loop-d-preserved-then-x-eq0 : goal.loop-d-preserved-then-x-eq0
loop-d-preserved-then-x-eq0 c =
    let l = c.loop-d in
    let s = c.close in
    writing_close l.invariant c.loop-d-test.true c.if-x-eq0.true s.auto.table s.ensures

pub returns-in_default-clause-spelled : goal.returns-in_default-clause-spelled
returns-in_default-clause-spelled c =
    writing_refused c.loop-d.invariant c.loop-d-test.true c.if-x-eq0.false (none_stands _ _ _ c.next_element.ensures c.in_default.is)

pub store-requires : goal.store-requires
store-requires c =
    let e = one_stands _ _ _ c.next_element.ensures c.in-Some.is in
    omega (arith, e.there, e.small, c.in-Some.k-is, c.in-Some.m-is, c.loop-d.invariant.few, c.loop-d.invariant.source_long, c.requires.in_bounds)

pub returns-then-bytes-o-clause-spelled : goal.returns-then-bytes-o-clause-spelled
returns-then-bytes-o-clause-spelled c =
    let e = one_stands _ _ _ c.next_element.ensures c.in-Some.is in
    writing_over c.loop-d.invariant c.loop-d-test.true c.if-x-eq0.false e.there e.kind e.measure e.stands c.if-k-lt-NODE_KIND.true c.if-bytes-o.true

pub loop-d-preserved-then-k-lt-NODE_KIND : goal.loop-d-preserved-then-k-lt-NODE_KIND
loop-d-preserved-then-k-lt-NODE_KIND c =
    let e = one_stands _ _ _ c.next_element.ensures c.in-Some.is in
    let r = c.store in
    let s = c.store-then-k-lt-NODE_KIND in
    let p = c.requires.in_bounds in
    writing_token c.loop-d.invariant c.loop-d-test.true c.if-x-eq0.false e.there e.kind e.measure e.stands r.auto.s r.ensures s.auto.s c.passed-x.ensures p.1 p.2 c.if-k-lt-NODE_KIND.true (omega arith) s.ensures

pub bounds-stack-d-else-k-lt-NODE_KIND : goal.bounds-stack-d-else-k-lt-NODE_KIND
bounds-stack-d-else-k-lt-NODE_KIND c =
    let e = one_stands _ _ _ c.next_element.ensures c.in-Some.is in
    let low = writing_shallow c.loop-d.invariant c.loop-d-test.true c.if-x-eq0.false e.there e.kind e.measure e.stands in
    omega (arith, low)

pub loop-d-preserved : goal.loop-d-preserved
loop-d-preserved c =
    let e = one_stands _ _ _ c.next_element.ensures c.in-Some.is in
    let r = c.store in
    let s = c.store-else-k-lt-NODE_KIND in
    let p = c.requires.in_bounds in
    writing_node c.loop-d.invariant c.loop-d-test.true c.if-x-eq0.false e.there e.kind e.measure e.stands r.auto.s r.ensures s.auto.s c.passed.ensures p.1 p.2 c.if_root-at.ensures c.if_root-tree.ensures (omega arith) c.new-x-else-k-lt-NODE_KIND.ensures s.ensures

pub returns-then-i-columns-clause-spelled : goal.returns-then-i-columns-clause-spelled
returns-then-i-columns-clause-spelled c = writing_end c.loop-d.invariant (omega arith) (omega arith)

pub returns-then-i-columns-clause-table_after : goal.returns-then-i-columns-clause-table_after
returns-then-i-columns-clause-table_after c e = writing_table c.loop-d.invariant (omega arith) (omega arith)

pub returns-then-i-columns-clause-source_after : goal.returns-then-i-columns-clause-source_after
returns-then-i-columns-clause-source_after c e = writing_rows c.loop-d.invariant (omega arith) (omega arith)

pub returns-else-i-columns-clause-spelled : goal.returns-else-i-columns-clause-spelled
returns-else-i-columns-clause-spelled c = writing_long c.loop-d.invariant (omega arith) c.if-i-columns.false
