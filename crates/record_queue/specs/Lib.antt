-- Recording.
--     Queueing      queues of changes in any form
--     Recorded      the recorded changes, with where their elements stand in the batch's list
--     RecordedRows  recording on rows
--     CallList      the calls of a batch, one by one
--     Placed        the elements that go in stand where the rows say
--     Asked         the row of what a call asks for
pub mod Queueing
pub mod Recorded
pub mod RecordedRows
pub mod CallList
pub mod Asked
pub mod Placed
