-- `write_claims` meets its contract.
use Rattle.check_claim.proofs.Ways.{below_cleared, writes_claims}
use lib.ListN.{length}
use Rattle.check_claim.proofs.write_claims.Goals as goal

pub mark_all-requires : goal.mark_all-requires
mark_all-requires c = below_cleared (length c.args.marks.now) c.args.changed.now (c.fill-2.ensures.after (λ y e. e)) c.requires.2

pub pair_up-requires : goal.pair_up-requires
pair_up-requires c = (c.requires.0, below_cleared (length c.args.partners.now) c.args.pairs.now.news.now (c.fill.ensures.after (λ y e. e)) c.requires.1)

pub returns : goal.returns
returns c = writes_claims (c.fill.ensures.after (λ y e. e)) (c.fill-2.ensures.after (λ y e. e)) c.mark_all.ensures c.pair_up.ensures
