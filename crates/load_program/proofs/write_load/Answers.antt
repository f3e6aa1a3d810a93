-- `write_load` meets its contract: with room and work of their lengths a load is not refused.
-- Assumes nothing.
use Rattle.std.specs.Prelude.{◌≡◌, Result, Ok, Err, List, [], ◌∷◌, ℕ, ◌≤◌, length}
use Rattle.definition.specs.Writing.{laid_out}
use Rattle.load_batch.specs.Loads.{Loads}
use Rattle.load_laws.specs.Load.{load}
use Rattle.load_program.specs.Responds.{Puts, not_refused, put_bytes}
use Rattle.refusals.specs.Numbers.{answered}
use Rattle.refusals.specs.declared.Refusal.{Refusal}
use borrow.Author.Rules.{rules}
use Rattle.load_program.proofs.write_load.Goals as goal

module _ (start : ℕ) (held a b c : List ℕ) (o : Result ℕ Refusal) (holds : List ℕ) (left : List (List ℕ)) (w : Loads start held (a ∷ b ∷ c ∷ []) (answered o) holds left) where
  wrong : {r : Refusal} → o ≡ Err r → 8632 ≤ length held → 49180 ≡ length a → 16384 ≡ length b → 6147 ≡ length c → ⊥
  wrong {r} e room p q s = not_refused start held a b c room p q s o r holds left w e

  right : {n : ℕ} → o ≡ Ok n → 8632 ≤ length held → 49180 ≡ length a → 16384 ≡ length b → 6147 ≡ length c → Puts (laid_out (load start)) holds n
  right {n} e room p q s = put_bytes start held a b c room p q s o n holds left w e

pub unreachable-requires : goal.unreachable-requires
unreachable-requires c = wrong c.args.start _ _ _ _ c.load.result _ _ c.load.ensures.loads c.in-Err.is (search rules) (search rules) (search rules) (search rules)

pub returns : goal.returns
returns c = right c.args.start _ _ _ _ c.load.result _ _ c.load.ensures.loads c.in-Ok.is (search rules) (search rules) (search rules) (search rules)
