-- `put_digits` meets its contract.
use borrow.Author.Rules.{rules}
use Rattle.edit_print.proofs.Turns.{no_digit, one_digit, digit_room, more_digits}
use Rattle.edit_print.proofs.+put_digits.Goals as goal

pub returns-then-k-eq0 : goal.returns-then-k-eq0
returns-then-k-eq0 t c = no_digit _ _ _ c.if-k-eq0.true

pub returns-then-n-lt10 : goal.returns-then-n-lt10
returns-then-n-lt10 t c = one_digit c.if-k-eq0.false c.if-n-lt10.true c.put.ensures

pub put-requires-2 : goal.put-requires-2
put-requires-2 t c = digit_room c.args.n c.if-k-eq0.false c.requires c.put_digits-end.ensures (search rules)

pub returns : goal.returns
returns t c = more_digits c.if-k-eq0.false c.if-n-lt10.false c.requires c.put_digits-end.ensures c.put-2.ensures
