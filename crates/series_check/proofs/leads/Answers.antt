-- `leads` meets its contract.
use borrow.Author.Rules.{rules}
use Rattle.series_check.specs.Leading.{leads_beyond, leads_found}
use Rattle.series_check.proofs.leads.Goals as goal

pub returns-then-n-gt-LONGEST_PATH : goal.returns-then-n-gt-LONGEST_PATH
returns-then-n-gt-LONGEST_PATH c = search (leads_beyond, rules)

pub returns : goal.returns
returns c = search (leads_found, rules)
