-- `share_from` meets its contract: the share of what the run leaves is the batch's.
use mathlib.Core.Path.{sym}
use lib.Seq.{length-take-le}
use Rattle.edit_answer.proofs.Ends.{few_used, share_answers}
use Rattle.edit_answer.proofs.share_from.Goals as goal

pub slice_bounds-share-end : goal.slice_bounds-share-end
slice_bounds-share-end c = sym (length-take-le _ _ c.requires.changed_within)

pub share-s-requires : goal.share-s-requires
share-s-requires c = few_used c.requires

pub returns : goal.returns
returns c = share_answers c.requires c.share-s.ensures
