-- Every definition opened, so that the answer to a batch that is written out is computed.
-- Assumes nothing.
use mathlib.Core.List
use Rattle.std.proofs.Math.Option
use Rattle.std.specs.Prelude.{List, ℕ}
use Rattle.orders.specs.Lists
use Rattle.orders.specs.Tree
use Rattle.definition.specs.Basics
use Rattle.definition.specs.Words
use Rattle.definition.specs.Choices
use Rattle.definition.specs.Batch
use Rattle.definition.specs.Elements
use Rattle.definition.specs.Refusals
use Rattle.definition.specs.Writing
use Rattle.definition.specs.Recording
use Rattle.definition.specs.Planning
use Rattle.definition.specs.EdgeRule
use Rattle.definition.specs.Withdrawing
use Rattle.definition.specs.Rewriting
use Rattle.definition.specs.Running
use Rattle.definition.specs.Finishing
use Rattle.definition.specs.Answers
use Rattle.definition.specs.FindElement
use Rattle.definition.specs.Performed
use Rattle.definition.specs.Printed
use Rattle.definition.specs.Account

-- what the edit program prints for an input, by default
unfoldable pub computed : List ℕ → List ℕ
unfolding
    List.flat_map List.zip List.zip_with List.head_d Option.bind
    Lists.pick Lists.any
    Tree.list Tree.forest Tree.label Tree.resolve Tree.zone Tree.adjust Tree.modify Tree.splice Tree.preorder Tree.preorders Tree.elements Tree.elements_of Tree.text Tree.text_of Tree.deepest Tree.deepest_of Tree.measure Tree.children Tree.last Tree.front Tree.strip
    Basics.◌>>=◌ Basics.refuse Basics.or_refuse Basics.is_refused Basics.is_some Basics.among Basics.keep Basics.first Basics.numbered Basics.lower Basics.insert_by Basics.sort_by Basics.rising Basics.falling
    Choices.by_default Choices.chosen Choices.digit Choices.given
    Words.word Words.words Words.bytes Words.written
    Batch.sizes Batch.beyond Batch.whole Batch.arrays Batch.batch
    Elements.is_node Elements.kind_of Elements.malformed Elements.pieces Elements.plant Elements.grow Elements.starts_with_token Elements.unspelled Elements.spelled Elements.numbers Elements.rows Elements.rows_below Elements.table Elements.no_row Elements.row Elements.node? Elements.parent Elements.root? Elements.depth Elements.tree Elements.child Elements.place_below Elements.descend
    Refusals.call_word Refusals.operation_of Refusals.count_of Refusals.rule_of Refusals.calls Refusals.wrong_count Refusals.too_many Refusals.lists_too_many Refusals.ruled_start Refusals.same_parent Refusals.wrong_run Refusals.misplaced Refusals.wrong_call Refusals.wrong_mapping Refusals.wrong_note Refusals.accepted
    Writing.sizes_of Writing.seven_sizes Writing.call_words Writing.laid_out Writing.differ Writing.out_of_step Writing.unfitting Writing.unlayable Writing.wrong_lists Writing.write Writing.lists_of Writing.lists
    Recording.run Recording.change Recording.call Recording.merges Recording.replaces_by Recording.idle Recording.merged Recording.merge Recording.queued Recording.record_call Recording.recorded
    Planning.target Planning.rank Planning.from Planning.to Planning.above Planning.parent_depth Planning.key Planning.sorted Planning.peers Planning.exceeds Planning.overlapping Planning.overlap Planning.is_discarded Planning.around Planning.fate Planning.adds_region Planning.node_by_node Planning.inner Planning.pushed Planning.fates_from Planning.fates Planning.changes_of Planning.with_fates
    EdgeRule.in_run EdgeRule.at_or_below EdgeRule.parent_or_root EdgeRule.target_parent EdgeRule.of_root EdgeRule.removes EdgeRule.only_in EdgeRule.is_run_of EdgeRule.inside EdgeRule.takes EdgeRule.region_depth EdgeRule.innermost EdgeRule.region_of EdgeRule.fate_in EdgeRule.fate_within EdgeRule.fate_among EdgeRule.fates1 EdgeRule.fates_by EdgeRule.planned EdgeRule.judge
    Withdrawing.replaces Withdrawing.crosses Withdrawing.shares Withdrawing.overlapping Withdrawing.gives_way Withdrawing.stronger Withdrawing.keeping Withdrawing.kept Withdrawing.withdrawn_by Withdrawing.withdrawals Withdrawing.withdrawals_by Withdrawing.staying Withdrawing.numbers_left
    Rewriting.mapping Rewriting.replacement Rewriting.mapped_or Rewriting.climb Rewriting.trail Rewriting.land Rewriting.moved Rewriting.retarget Rewriting.rewrite_into Rewriting.rewrite_one Rewriting.rewriting Rewriting.rewritten Rewriting.nearest Rewriting.is_parent Rewriting.note_from Rewriting.settle Rewriting.settled
    Running.owned Running.ranked Running.order Running.begin Running.present Running.with_path Running.notes_at Running.yield_at Running.yield Running.news Running.from_to Running.empty_at Running.place Running.placed Running.spliced Running.too_large Running.records Running.recorded_by Running.step Running.steps
    Finishing.new_tree Finishing.new_table Finishing.number_at Finishing.changed_elements Finishing.note_elements Finishing.result Finishing.six_sizes Finishing.encoded Finishing.fitting
    Answers.sorted_changes Answers.withdrawing Answers.remaining Answers.judge_changes Answers.disjoint Answers.rewrite_changes Answers.plan Answers.performed Answers.at_first Answers.ran Answers.edit Answers.too_short Answers.with_work Answers.with_choices Answers.edited
    FindElement.alike FindElement.find_in FindElement.find_element
    Performed.in_tree0 Performed.to_splice Performed.met Performed.yields Performed.told Performed.splices Performed.splices_of
    Printed.ascii Printed.digits Printed.decimal Printed.hex_digit Printed.hex Printed.line Printed.element_line Printed.text_line Printed.print Printed.printed
    Account.renumbered Account.sayings Account.account_of Account.after Account.fate_line Account.said_line Account.said_lines Account.overlap_line Account.said Account.account Account.in_room Account.accounted Account.tell Account.account_printed
computed input = Printed.printed Choices.by_default input
