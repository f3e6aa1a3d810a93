-- One step of the run on rows and marks, and the law that it is the definition's step.
--     Store      the current trees as rows, elements, notes and changed elements as rows; one step
--     Gaps       where a change goes, in rows
--     Parts      what a listed element yields, in rows
--     Spliced    what is held after a splice
--     Sizes      refusal 12, told from rows
--     Sums       rows and text bytes told before a splice
--     Step       one step, and all steps: the definition's
pub mod Store
pub mod Sums
