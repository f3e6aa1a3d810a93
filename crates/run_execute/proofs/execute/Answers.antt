-- `execute` meets its contract.
use native.Mathlib.Omega.{arith}
use Rattle.run_prepare.specs.Parts.{words_in}
use Rattle.run_execute.proofs.Beginning.{begun_listed, begun_performs, begun_room, begun_standing, executed}
use Rattle.run_execute.proofs.execute.Goals as goal

pub run_steps-requires : goal.run_steps-requires
run_steps-requires c = let p = c.requires in record { standing = begun_standing c.requires.begun c.begin-s.ensures c.args.changed.now (omega (arith, c.begin-s.auto.rows, c.requires.in_bounds.0)); in_bounds = (omega (arith, c.begin-s.auto.rows, p.in_bounds.0), omega (arith, c.begin-s.auto.notes, p.in_bounds.1), p.in_bounds.2, p.in_bounds.3, p.in_bounds.4); listed_low = begun_listed c.requires.begun c.begin-s.ensures c.args.changed.now (omega (arith, c.begin-s.auto.rows, c.requires.in_bounds.0)) c.args.task.now.listed.now p.listed_low; all = begun_performs c.requires.begun c.begin-s.ensures c.args.changed.now (omega (arith, c.begin-s.auto.rows, c.requires.in_bounds.0)) (words_in c.args.task.now.listed.now) c.args.task.now.changes.now c.args.running.now p.all; running_in_bounds = begun_room c.requires.begun c.begin-s.ensures c.args.changed.now (omega (arith, c.begin-s.auto.rows, c.requires.in_bounds.0)) (words_in c.args.task.now.listed.now) c.args.task.now.changes.now c.args.running.now p.running_in_bounds }

pub returns : goal.returns
returns c = executed c.requires.begun c.begin-s.ensures c.args.changed.now (omega (arith, c.begin-s.auto.rows, c.requires.in_bounds.0)) (words_in c.args.task.now.listed.now) c.args.task.now.changes.now c.args.running.now c.run_steps.ensures
