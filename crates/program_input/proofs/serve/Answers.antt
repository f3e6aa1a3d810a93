-- `serve` meets its contract: what it writes is said of all the input.
-- Assumes nothing.
use Rattle.std.proofs.Common.{rules}
use Rattle.std.proofs.lemmas.Result.{on_ok_weaker}
use Rattle.program_input.specs.Told.{written_said}
use Rattle.program_input.proofs.serve.Goals as goal

pub returns : goal.returns
returns g c =
    let e = c.respond-ended.ensures in
    on_ok_weaker c.respond-ended.result.1
    (λ z. written_said (g.P.Program.says c.args.program.now) g.row.IN (g.met.P.Program.cut c.args.program.now) _ _ _ _ c.respond-ended.new.input _ c.respond-ended.result.0.read (search rules) e.responds.judged e.bytes z e.responds.says c.in_ok-write_all.ensures.bytes) e.end
