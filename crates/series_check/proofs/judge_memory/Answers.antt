-- `judge_memory` meets its contract.
use mathlib.Core.Path.{refl, sym, ◌∙◌}
use borrow.Author.Rules.{rules}
use Rattle.series_check.specs.Rows.{accepts_sum}
use Rattle.series_check.specs.Judged.{remains_unspelled, remains_wrong, remains_lead, remains_astray}
use Rattle.series_check.proofs.judge_memory.Goals as goal

pub returns-then-not-spells : goal.returns-then-not-spells
returns-then-not-spells c = search (remains_unspelled, rules)

pub returns-then-wrong_numbers : goal.returns-then-wrong_numbers
returns-then-wrong_numbers c = remains_wrong _ _ _ c.requires.0 _ _ c.if-not-spells.ensures (sym c.if-wrong_numbers.true ∙ c.wrong_numbers.ensures)

pub fill_rows-requires : goal.fill_rows-requires
fill_rows-requires c = search (accepts_sum, rules)

pub returns-then-all_lead : goal.returns-then-all_lead
returns-then-all_lead c = remains_lead _ _ _ c.requires.0 _ _ c.if-not-spells.ensures (sym c.if-wrong_numbers.false ∙ c.wrong_numbers.ensures) _ _ _ c.requires.3 c.fill_rows.ensures refl c.all_lead.ensures c.if-all_lead.true

pub returns : goal.returns
returns c = remains_astray _ _ _ c.requires.0 _ _ c.if-not-spells.ensures (sym c.if-wrong_numbers.false ∙ c.wrong_numbers.ensures) _ _ _ c.requires.3 c.fill_rows.ensures refl c.all_lead.ensures c.if-all_lead.false
