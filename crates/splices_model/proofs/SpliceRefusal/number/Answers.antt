-- `number` meets its contract: each variant's number is the one that docs/WORK.md gives it.
use mathlib.Core.Path.{◌≡◌, refl}
use Prim.Native.Nat.{◌+◌}
use denote.Enum.Declared.{tag_of}
use Rattle.splices_model.specs.contracts.SpliceRefusal.{the_type}
use Rattle.splices_model.specs.declared.SpliceRefusal.{SpliceRefusal}
use Rattle.splices_model.specs.declared.SpliceRefusal.TheVariants.{OutOfLimits, NoRoom, NoTree, Unfit, NotApart}
use Rattle.splices_model.specs.Refusals.{number}
use Rattle.splices_model.proofs.SpliceRefusal.number.Goals as goal

tagged : (r : SpliceRefusal) → tag_of the_type r + 1 ≡ number r
tagged OutOfLimits = refl
tagged NoRoom = refl
tagged NoTree = refl
tagged Unfit = refl
tagged NotApart = refl

pub returns : goal.returns
returns c = tagged c.args.self
