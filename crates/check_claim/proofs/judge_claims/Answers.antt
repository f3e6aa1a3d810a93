-- `judge_claims` meets its contract.
use Rattle.std.proofs.Common.{arith}
use Rattle.std.proofs.lemmas.Bool.Decides.{nat_tests}
use Rattle.definition.specs.Basics.{refuse, ◌>>=◌}
use Rattle.check_model.specs.Clauses.{judged}
use Rattle.check_claim.proofs.Ways.{claims_fit, ready}
use Rattle.check_claim.specs.Judging.{answer_of, judging}
use Rattle.refusals.specs.Numbers.{number}
use Rattle.check_claim.proofs.judge_claims.Goals as goal

pub returns-then-names_none-clause-judges : goal.returns-then-names_none-clause-judges
unfolding answer_of number judging refuse ◌>>=◌
returns-then-names_none-clause-judges c = grind (arith, nat_tests)

pub write_claims-requires : goal.write_claims-requires
write_claims-requires c = let p = c.requires in claims_fit _ _ _ _ _ _ _ c.names_none.ensures c.if-names_none.false p.1.few p.2.few p.3 p.4

pub hold-requires : goal.hold-requires
hold-requires c = let p = c.requires in ready _ _ c.args.claims.now.old.text.now c.args.claims.now.new.text.now _ _ _ _ _ _ _ c.names_none.ensures c.if-names_none.false c.write_claims.ensures c.if-write_claims.true p.0 p.1 p.2 p.3 p.4

pub returns-then-hold-clause-judges : goal.returns-then-hold-clause-judges
unfolding answer_of judging judged refuse ◌>>=◌
returns-then-hold-clause-judges c = let w = c.write_claims.ensures in let p = w.partners c.if-write_claims.true in let m = w.marks in grind (arith, nat_tests)

pub returns-else-write_claims-clause-judges : goal.returns-else-write_claims-clause-judges
unfolding answer_of judging judged refuse ◌>>=◌
returns-else-write_claims-clause-judges c = let w = c.write_claims.ensures in let m = w.marks in grind (arith, nat_tests)
