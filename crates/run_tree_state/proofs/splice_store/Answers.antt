-- `splice_store` meets its contract.
use native.Mathlib.Omega.{arith}
use borrow.Author.Rules.{rules}
use Rattle.run_tree_state.proofs.Held.{shift_low, asks_rows, asks_sizes, store_spliced}
use Rattle.run_tree_state.proofs.splice_store.Goals as goal

pub invariant_of-shift : goal.invariant_of-shift
invariant_of-shift c = let v = c.requires.fact in let w = c.args.parts.now.bounded in record { order = v.order; low = shift_low v w; few = omega (arith, w.short) }

pub splice-r-requires : goal.splice-r-requires
splice-r-requires c = let p = c.requires in let a = asks_rows p.fact c.args.parts.now.bounded p.room in record { n_in_bounds = a.0; run_len = a.1; bound = a.2; risen = p.fact.risen }

pub splice_notes-k-requires : goal.splice_notes-k-requires
splice_notes-k-requires c = let p = c.requires in record { k_in_bounds = (p.fact.long_notes, p.fact.noted); whole = c.args.parts.now.bounded.whole_notes; room = p.room.long_notes }

pub splice_changed-l-requires : goal.splice_changed-l-requires
splice_changed-l-requires c = let v = c.requires.fact in record { k_in_bounds = v.held; room = (v.room, v.ruled); bounded = asks_sizes v c.args.parts.now.bounded }

pub returns : goal.returns
returns c = search (store_spliced, rules)
