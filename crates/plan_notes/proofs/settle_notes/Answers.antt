-- `settle_notes` meets its contract. At the loop's head the notes so far are settled and written.
use borrow.Author.Rules.{rules}
use mathlib.Core.Path.{refl, ◌∙◌}
use native.Mathlib.Omega.{arith}
use Rattle.std.proofs.lemmas.Result.{err_from_is_err_and}
use Rattle.words.specs.Bytes.{length_words}
use Rattle.plan_upmap.specs.Settling.{settled_at_lem}
use Rattle.plan_notes.proofs.Settling.{settling_start, settling_done, settling_element, settling_refused, settling_next}
use Rattle.plan_notes.proofs.settle_notes.Goals as goal

pub loop-i-init : goal.loop-i-init
loop-i-init c = search (settling_start, rules)

pub upmap_element-requires : goal.upmap_element-requires
upmap_element-requires c = settling_element _ _ _ _ _ _ _ _ _ _ c.loop-i.invariant (length_words _ _) (length_words _ _ ∙ c.requires.counts.0) (search rules) _ _ c.get.ensures.0 refl

pub returns-in_err-e : goal.returns-in_err-e
returns-in_err-e c =
    let p = err_from_is_err_and c.from_residual.result c.from_residual.ensures.1 in
    rw (p.1, p.2) (settling_refused _ _ _ _ _ _ _ _ _ _ c.loop-i.invariant (length_words _ _) (length_words _ _ ∙ c.requires.counts.0) (search rules) _ _ c.get.ensures.0 refl _ c.upmap_element.ensures _ c.in_err-e.was)

pub overflow_add-e : goal.overflow_add-e
overflow_add-e c = omega (arith, settled_at_lem c.upmap_element.ensures.within c.in_ok-e.was, c.args.mapping.now.elements.formed.lines.few)

pub store-requires : goal.store-requires
store-requires c = (omega (arith, c.requires.counts), (omega (arith, settled_at_lem c.upmap_element.ensures.within c.in_ok-e.was, c.args.mapping.now.elements.formed.lines.few), (search rules, (omega (arith, c.requires.counts), tt))))

pub loop-i-preserved : goal.loop-i-preserved
loop-i-preserved c = settling_next _ _ _ _ _ _ _ _ _ _ c.loop-i.invariant (length_words _ _) (length_words _ _ ∙ c.requires.counts.0) (search rules) _ _ c.get.ensures.0 c.get-in-loop-i.ensures.0 _ c.upmap_element.ensures _ c.in_ok-e.was _ c.requires.counts.2 c.store.auto.s c.store.ensures

pub returns : goal.returns
returns c = settling_done _ _ _ _ _ _ _ _ _ _ c.loop-i.invariant (length_words _ _) (length_words _ _ ∙ c.requires.counts.0) (search rules)
