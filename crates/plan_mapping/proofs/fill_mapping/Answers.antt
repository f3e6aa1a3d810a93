-- `fill_mapping` meets its contract. The mappings that are left go over the array as it stands.
use borrow.Author.Rules.{rules}
use Rattle.words.specs.Bytes.{length_words}
use Rattle.plan_mapping.proofs.Filling.{filling_start, filling_done, filling_in, filling_next}
use native.Mathlib.Omega.{arith}
use mathlib.Core.Path.{refl}
use Rattle.plan_mapping.proofs.fill_mapping.Goals as goal

pub loop-i-init : goal.loop-i-init
loop-i-init c = search (filling_start, rules)

pub overflow_cast-map : goal.overflow_cast-map
overflow_cast-map c = let turn = filling_in _ _ _ _ _ c.loop-i.invariant _ _ _ _ (length_words _ _) (length_words _ _) (search rules) refl c.get.ensures.0 in omega (arith, turn.1)

pub bounds-map-get : goal.bounds-map-get
bounds-map-get c = (filling_in _ _ _ _ _ c.loop-i.invariant _ _ _ _ (length_words _ _) (length_words _ _) (search rules) c.get-in-loop-i.ensures.0 c.get.ensures.0).0

pub loop-i-preserved : goal.loop-i-preserved
loop-i-preserved c = filling_next _ _ _ _ _ c.loop-i.invariant _ _ _ _ (length_words _ _) (length_words _ _) (search rules) c.get-in-loop-i.ensures.0 c.get.ensures.0

pub returns : goal.returns
returns c = filling_done _ _ _ _ _ c.loop-i.invariant _ _ (length_words _ _) (length_words _ _) (search rules)
