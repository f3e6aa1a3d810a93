-- `spells` meets its contract. The machine has read the elements passed.
use borrow.Author.Rules.{rules}
use native.Mathlib.Omega.{arith}
use mathlib.Core.Path.{sym, ◌∙◌}
use Rattle.read_spelling.specs.SpellingLaws.{stands_shallow}
use Rattle.read_spelling.proofs.Reading.{reading_start, reading_close, reading_long, reading_end, reading_short, reading_wrong, reading_token, reading_node}
use Rattle.read_spelling.proofs.spells.Goals as goal

pub loop-d-init : goal.loop-d-init
loop-d-init c = search (reading_start, rules)

pub loop-d-preserved-then-x-eq0 : goal.loop-d-preserved-then-x-eq0
loop-d-preserved-then-x-eq0 c = search (reading_close, rules)

pub returns-then-columns-i : goal.returns-then-columns-i
returns-then-columns-i c = search (reading_short, rules)

pub returns-then-not-stands : goal.returns-then-not-stands
returns-then-not-stands c = search (reading_wrong, rules)

pub bounds-left-d : goal.bounds-left-d
bounds-left-d c =
    let s = c.stands in
    omega (arith, stands_shallow _ _ (sym s.ensures ∙ c.if-not-stands.false))

pub loop-d-preserved-then-k-lt-NODE_KIND : goal.loop-d-preserved-then-k-lt-NODE_KIND
loop-d-preserved-then-k-lt-NODE_KIND c =
    let l = c.loop-d in
    let e = c.get-k in
    reading_token l.invariant (omega arith) c.if-x-eq0.false (omega arith) e.ensures.kind.0 e.ensures.measure.0 c.stands.ensures c.if-not-stands.false c.if-k-lt-NODE_KIND.true e.ensures.measure.1

pub loop-d-preserved : goal.loop-d-preserved
loop-d-preserved c =
    let l = c.loop-d in
    let e = c.get-k in
    reading_node l.invariant (omega arith) c.if-x-eq0.false (omega arith) e.ensures.kind.0 e.ensures.measure.0 c.stands.ensures c.if-not-stands.false (omega arith)

pub returns-then-i-columns : goal.returns-then-i-columns
returns-then-i-columns c = search (reading_long, rules)

pub returns : goal.returns
returns c = search (reading_end, rules)
