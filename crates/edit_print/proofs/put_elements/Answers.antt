-- `put_elements` meets its contract.
use borrow.Author.Rules.{rules}
use Rattle.definition.specs.Printed.{element_line}
use Rattle.edit_print.proofs.Turns.{pairs_done, pairs_next, pairs_room, pairs_start}
use Rattle.edit_print.specs.Lines.{element_length}
use Rattle.edit_print.proofs.put_elements.Goals as goal

pub loop-i-init : goal.loop-i-init
loop-i-init c = search (pairs_start element_line 24 element_length, rules)

pub put_element-to-requires : goal.put_element-to-requires
put_element-to-requires c = search (pairs_room element_line 24 element_length, rules)

pub loop-i-preserved : goal.loop-i-preserved
loop-i-preserved c = search (pairs_next element_line 24 element_length, rules)

pub returns : goal.returns
returns c = search (pairs_done element_line 24 element_length, rules)
