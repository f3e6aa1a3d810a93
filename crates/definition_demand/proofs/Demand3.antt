-- DEMAND 3, whole.
-- Assumes nothing.
use Rattle.orders.proofs.Demand.{demand, orders_agree}
use Rattle.definition_demand.proofs.Run.{run_demanded}
use Rattle.definition_demand.proofs.Answered.{answers_one_go, edited_result}
use Rattle.definition_demand.specs.Demand3.{Demand3}

pub demand_3 : Demand3
demand_3 = record { law = demand; agree = orders_agree; run = run_demanded; answer = answers_one_go; bytes = edited_result }
