-- `step` meets its contract.
use mathlib.Core.Path.{◌≡◌, refl}
use native.Mathlib.Omega.{arith}
use Rattle.std.specs.Prelude.{None, Some, Err}
use Rattle.std.proofs.lemmas.Result.{err_from_is_err_and}
use Rattle.refusals.specs.declared.Refusal.TheVariants.{Gone}
use Rattle.run_step.proofs.Performing.{asks_gap, asks_ends, list_within, listed_low, opens, performed, performed_gone}
use Rattle.run_step.proofs.step.Goals as goal

pub invariant_of-held : goal.invariant_of-held
invariant_of-held c = let q = asks_gap c.requires.standing c.args.task.now.listed.now c.args.task.now.changes.now c.args.k c.args.task.now.few c.requires.listed_low c.requires.performs in record { long = q.0; few = q.1 }

pub invariant_of-store : goal.invariant_of-store
invariant_of-store c = let q = asks_gap c.requires.standing c.args.task.now.listed.now c.args.task.now.changes.now c.args.k c.args.task.now.few c.requires.listed_low c.requires.performs in record { some = q.2; placed = q.3; lines = q.4 }

pub change_site-requires : goal.change_site-requires
change_site-requires c = asks_ends c.requires.standing c.args.task.now.listed.now c.args.task.now.changes.now c.args.k c.args.task.now.few c.requires.listed_low c.requires.performs

pub listed-list-requires : goal.listed-list-requires
listed-list-requires c = (c.requires.listed_low.1, list_within c.requires.standing c.args.task.now.listed.now c.args.task.now.changes.now c.args.k c.args.task.now.few c.requires.listed_low c.requires.performs)

pub step_at-requires : goal.step_at-requires
step_at-requires c =
    let s : c.change_site.result ≡ Some c.in_ok-site.site = grind arith in
    let p = c.requires in let b = p.standing.begun in let l = listed_low c.requires.standing c.args.task.now.listed.now c.args.task.now.changes.now c.args.k c.args.task.now.few c.requires.listed_low c.requires.performs (c.change_site.ensures.found c.in_ok-site.site s) refl (c.change_site.ensures.deep c.in_ok-site.site s) (c.change_site.ensures.records c.in_ok-site.site s) c.listed-list.ensures in record { fact = opens c.requires.standing c.args.task.now.listed.now c.args.task.now.changes.now c.args.k c.args.task.now.few c.requires.listed_low c.requires.performs (c.change_site.ensures.found c.in_ok-site.site s) refl (c.change_site.ensures.deep c.in_ok-site.site s) (c.change_site.ensures.records c.in_ok-site.site s) c.listed-list.ensures p.in_bounds.1 p.k_in_bounds; room = p.in_bounds; task_in_bounds = (b.formed.few, b.long, b.few_notes, l.0, l.1) }

pub returns-in_err-site : goal.returns-in_err-site
returns-in_err-site c =
    let n : c.change_site.result ≡ None = grind arith in
    let p = err_from_is_err_and c.from_residual.result c.from_residual.ensures.1 in
    let e : c.from_residual.result ≡ Err Gone = grind arith in
    rw e (performed_gone c.requires.standing c.args.task.now.listed.now c.args.task.now.changes.now c.args.k c.args.task.now.few c.requires.listed_low c.requires.performs (c.change_site.ensures.gone n) refl)

pub returns : goal.returns
returns c =
    let s : c.change_site.result ≡ Some c.in_ok-site.site = grind arith in
    performed c.requires.standing c.args.task.now.listed.now c.args.task.now.changes.now c.args.k c.args.task.now.few c.requires.listed_low c.requires.performs (c.change_site.ensures.found c.in_ok-site.site s) refl (c.change_site.ensures.deep c.in_ok-site.site s) (c.change_site.ensures.records c.in_ok-site.site s) c.listed-list.ensures c.step_at.ensures
