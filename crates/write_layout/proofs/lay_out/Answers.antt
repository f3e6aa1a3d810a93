-- `lay_out` meets its contract: array behind array; each has room, since all are within their limits.
use native.Mathlib.Omega.{arith}
use Rattle.write_layout.proofs.Ways.{room_trees, room_queue, room_names, room_text, all_laid}
use Rattle.write_layout.proofs.lay_out.Goals as goal

pub append_sizes-trees_at-requires : goal.append_sizes-trees_at-requires
append_sizes-trees_at-requires c = record { in_step = c.requires.in_step; in_bounds = omega (arith, c.requires.in_bounds) }

pub append_two-calls_at-requires : goal.append_two-calls_at-requires
append_two-calls_at-requires c = room_trees _ c.requires.in_step c.requires.in_bounds c.append_sizes-trees_at.ensures c.draft-1.given

pub append_queue-names_at-requires : goal.append_queue-names_at-requires
append_queue-names_at-requires c = record { operations_len = (c.requires.in_step.counts, c.requires.in_step.rules); listed_in_bounds = room_queue _ c.requires.in_step c.requires.in_bounds c.append_sizes-trees_at.ensures c.draft-1.given c.append_two-calls_at.ensures c.draft-2-1.given }

pub append_names-text_at-requires : goal.append_names-text_at-requires
append_names-text_at-requires c = room_names _ c.requires.in_step c.requires.in_bounds c.append_sizes-trees_at.ensures c.draft-1.given c.append_two-calls_at.ensures c.draft-2-1.given c.append_queue-names_at.ensures c.draft-3-1.given

pub append_text-requires : goal.append_text-requires
append_text-requires c = room_text _ c.requires.in_step c.requires.in_bounds c.append_sizes-trees_at.ensures c.draft-1.given c.append_two-calls_at.ensures c.draft-2-1.given c.append_queue-names_at.ensures c.draft-3-1.given c.append_names-text_at.ensures c.draft-4-1.given

pub returns : goal.returns
returns c = all_laid _ c.requires.in_step c.requires.in_bounds c.append_sizes-trees_at.ensures c.draft-1.given c.append_two-calls_at.ensures c.draft-2-1.given c.append_queue-names_at.ensures c.draft-3-1.given c.append_names-text_at.ensures c.draft-4-1.given c.append_text.ensures
