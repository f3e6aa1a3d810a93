-- `fits` meets its contract.
use mathlib.Core.Path.{◌≡◌, sym, ◌∙◌}
use mathlib.Core.Bool.{true}
use native.Mathlib.Omega.{arith}
use borrow.Author.Rules.{rules}
use Rattle.splices_model.specs.Verdict.{bounded_is}
use Rattle.splices_check.proofs.fits.Goals as goal
use Rattle.splices_check.proofs.fits.Goals.{then-bounded, else-bounded}

pub has_run-requires : goal.has_run-requires
has_run-requires c =
    let w = bounded_is _ _ _ _ (sym c.bounded.ensures ∙ c.if-bounded.true) (omega (arith, c.requires, c.args.list.now.splices.long)) in
    search rules

pub part-requires : goal.part-requires
part-requires c =
    let t : c.bounded.result ≡ true = elim c.if-bounded.branch [ then-bounded w ↦ w.if-bounded.true | else-bounded w ↦ sym w.value-is ∙ c.if-has_run.true ] in
    let w = bounded_is _ _ _ _ (sym c.bounded.ensures ∙ t) (omega (arith, c.requires, c.args.list.now.splices.long)) in
    search rules
