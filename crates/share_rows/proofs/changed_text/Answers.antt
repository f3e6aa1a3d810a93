-- `changed_text` meets its contract: outside tree 0, or in it.
use Rattle.std.proofs.Common.{rules}
use Rattle.finish_model.specs.Numbered.{row_told}
use native.Mathlib.Omega.{arith}
use Rattle.share_rows.proofs.Ways.{text_none, text_there}
use Rattle.share_rows.proofs.changed_text.Goals as goal

pub returns-in-None : goal.returns-in-None
returns-in-None c = search (text_none, rules)

pub element_bytes-requires : goal.element_bytes-requires
element_bytes-requires c = let told = row_told c.args.end c.changed_row-row.result c.number_at.ensures c.in-Some.is in omega (arith, told.1, c.requires)

pub returns-in-Some : goal.returns-in-Some
returns-in-Some c = search (text_there, rules)
