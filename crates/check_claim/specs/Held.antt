-- What another editor claims, as one value.
-- Assumes nothing.
use Rattle.check_laws.specs.Check as model
use Rattle.check_claim.specs.Promise.{claims_in}
use Rattle.check_claim.specs.declared.claims.Claims.{Claims}

-- the claims themselves
abbrev pub claimed : Claims → model.Claims
claimed c = claims_in c.old.kinds.now c.old.measures.now c.old.text.now c.new.kinds.now c.new.measures.now c.new.text.now c.olds.now c.news.now c.changed.now
