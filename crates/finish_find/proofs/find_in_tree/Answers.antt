-- `find_in_tree` meets its contract. The invariant: none of the rows passed is alike, and the rest of the tree is what is still owed.
use Rattle.finish_find.proofs.Turns.{finding_start, token_passed, node_passed, last_token, last_node, found_here, found_out}
use borrow.Author.Rules.{rules}
use Rattle.finish_find.proofs.find_in_tree.Goals as goal
use Rattle.finish_find.proofs.find_in_tree.Goals.{then-other-lt-NODE_KIND, else-other-lt-NODE_KIND+else-is_alike}

pub loop-i-init : goal.loop-i-init
loop-i-init c = search (finding_start, rules)

pub returns-then-owed-eq0 : goal.returns-then-owed-eq0
returns-then-owed-eq0 c = elim c.if-other-lt-NODE_KIND.branch [ then-other-lt-NODE_KIND w ↦ search (last_token, rules) | else-other-lt-NODE_KIND+else-is_alike w ↦ search (last_node, rules) ]

pub returns-then-is_alike : goal.returns-then-is_alike
returns-then-is_alike c = search (found_here, rules)

pub loop-i-preserved : goal.loop-i-preserved
loop-i-preserved c = elim c.if-other-lt-NODE_KIND.branch [ then-other-lt-NODE_KIND w ↦ search (token_passed, rules) | else-other-lt-NODE_KIND+else-is_alike w ↦ search (node_passed, rules) ]

pub returns : goal.returns
returns c = search (found_out, rules)
