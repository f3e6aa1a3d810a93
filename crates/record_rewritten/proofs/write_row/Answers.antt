-- `write_row` meets its contract. The row of the change with the other ends, and then its fate.
use borrow.Author.Rules.{rules}
use Rattle.record_rewritten.proofs.Writing.{fits_told, row_written}
use Rattle.record_rewritten.proofs.write_row.Goals as goal

pub spot_of-spot-requires : goal.spot_of-spot-requires
spot_of-spot-requires c =
    let told = c.change_anew-change.ensures _ c.args.elements.now.formed.lines.few c.requires.0 c.requires.1 in (search rules, told.named)

pub write_row-requires : goal.write_row-requires
write_row-requires c =
    let told = c.change_anew-change.ensures _ c.args.elements.now.formed.lines.few c.requires.0 c.requires.1 in (search rules, fits_told told c.numbers_of.ensures, search rules, search rules)

pub returns : goal.returns
returns c =
    let told = c.change_anew-change.ensures _ c.args.elements.now.formed.lines.few c.requires.0 c.requires.1 in
    search (row_written, rules)
