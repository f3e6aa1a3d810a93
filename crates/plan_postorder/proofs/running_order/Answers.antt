-- `running_order` meets its contract. The links tell what runs, and no change runs twice.
use Rattle.plan_postorder.proofs.Visits.{links_kept, all_most, all_counted, all_written}
use mathlib.Core.Path.{refl}
use borrow.Author.Rules.{rules}
use Rattle.plan_postorder.proofs.running_order.Goals as goal

pub link_dependents-requires : goal.link_dependents-requires
link_dependents-requires c = record { ranked = (search rules, search rules); unlinked = (refl, refl) }

pub append_postorder-requires : goal.append_postorder-requires
append_postorder-requires c = record { links = search (links_kept, rules); owner_bound = (search rules, search rules, search rules, search (all_most, rules)) }

pub returns : goal.returns
returns c = record { value = search (all_counted, rules); running_after = search (all_written, rules); ranked_after = search rules }
