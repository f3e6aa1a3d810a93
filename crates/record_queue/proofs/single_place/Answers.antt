-- `single_place` meets its contract: the first row that is met.
use Rattle.std.proofs.Common.{◌≡◌, true, false, rules, tests}
use Rattle.std.proofs.lemmas.Iterator.{first_from_Range}
use Rattle.record_changes.specs.ChangeRowLaws.{row_at}
use Rattle.record_queue.specs.RecordedRows.{meets_single}
use Rattle.record_queue.proofs.Recordings.{first_place}
use Rattle.record_queue.proofs.single_place.Goals as goal

pub returns : goal.returns
returns c =
    let meets = meets_single c.args.target in
    let w = c.args.rows.now in
    first_place w c.args.q.start c.args.q.count c.args.target c.requires.0 _
    (first_from_Range _ _ _ _ (λ k. true ≡ meets (row_at w k)) (λ k. false ≡ meets (row_at w k)) c.find.ensures.ran (λ x q k. search (rules, tests)) (λ x q k. (search rules, search (rules, tests))))
