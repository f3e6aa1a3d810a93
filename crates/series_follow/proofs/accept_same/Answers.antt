-- `accept_same` meets its contract.
use Rattle.std.proofs.lemmas.Result.{err_from_is_err_and}
use Rattle.series_follow.specs.Accepting.{accepts_refused, accepts_read, accepts_22, accepts_same}
use Rattle.series_follow.proofs.accept_same.Goals as goal

pub returns-in_err-l : goal.returns-in_err-l
returns-in_err-l c =
    let p = err_from_is_err_and c.from_residual.result c.from_residual.ensures.1 in
    rw (p.1, p.2) (accepts_refused c.accept.ensures _ c.in_err-l.was)

pub same_tree-requires : goal.same_tree-requires
same_tree-requires c = accepts_read c.accept.ensures _ c.in_ok-l.was c.requires c.accept.auto.source

pub returns-then-same_tree : goal.returns-then-same_tree
returns-then-same_tree c = accepts_same c.accept.ensures _ c.in_ok-l.was _ c.same_tree.ensures c.requires c.if-same_tree.true

pub returns : goal.returns
returns c = accepts_22 c.accept.ensures _ c.in_ok-l.was _ c.same_tree.ensures c.if-same_tree.false
