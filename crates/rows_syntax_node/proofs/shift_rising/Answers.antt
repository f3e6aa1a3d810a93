-- `shift_rising` meets its contract, whichever way the marks from the first on are moved.
use mathlib.Core.Path.{refl}
use Rattle.rows_syntax_node.proofs.Turns.{asks_forget, asks_shift, rising_shifted, rising_risen}
use Rattle.rows_syntax_node.proofs.shift_rising.Goals as goal

pub forget_marks-requires : goal.forget_marks-requires
forget_marks-requires c = asks_forget c.requires c.first_moved-first.ensures

pub shift_marks-requires : goal.shift_marks-requires
shift_marks-requires c = asks_shift c.requires c.first_moved-first.ensures

pub returns-then-m-q-clause-shifted : goal.returns-then-m-q-clause-shifted
returns-then-m-q-clause-shifted c = rising_shifted c.requires c.first_moved-first.ensures c.if-m-q.true c.forget_marks.ensures

pub returns-then-m-q-clause-risen : goal.returns-then-m-q-clause-risen
returns-then-m-q-clause-risen c = rising_risen c.requires c.first_moved-first.ensures c.if-m-q.true c.forget_marks.ensures

pub returns-else-m-q-clause-shifted : goal.returns-else-m-q-clause-shifted
returns-else-m-q-clause-shifted c = rising_shifted c.requires c.first_moved-first.ensures refl c.shift_marks.ensures

pub returns-else-m-q-clause-risen : goal.returns-else-m-q-clause-risen
returns-else-m-q-clause-risen c = rising_risen c.requires c.first_moved-first.ensures refl c.shift_marks.ensures
