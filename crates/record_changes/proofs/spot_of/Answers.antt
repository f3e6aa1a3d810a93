-- `spot_of` meets its contract, case by case: what a change names is an element.
use Rattle.record_changes.proofs.Changing.{told_insert, told_replace, told_delete, told_many, told_run}
use borrow.Author.Rules.{rules}
use Rattle.record_changes.proofs.spot_of.Goals as goal

pub returns-in-Insert : goal.returns-in-Insert
returns-in-Insert c = (search (told_insert, rules), search rules)

pub returns-in-Replace : goal.returns-in-Replace
returns-in-Replace c = (search (told_replace, rules), search rules)

pub returns-in-Delete : goal.returns-in-Delete
returns-in-Delete c = (search (told_delete, rules), search rules)

pub returns-in-ReplaceWithMany : goal.returns-in-ReplaceWithMany
returns-in-ReplaceWithMany c = (search (told_many, rules), search rules)

pub returns-in-ReplaceAll : goal.returns-in-ReplaceAll
returns-in-ReplaceAll c = (search (told_run, rules), search rules)
