-- Document 01, as definitions that compute, on the trees, paths and splices of `orders`. In reading order:
--     Basics       an answer or a refusal, tests on lists, the stable sort
--     Words        the batch: words in bytes
--     Choices      how a batch is edited: the edge rule, stronger rules first or not     17, 18
--     Batch        the batch: sizes, limits, arrays                                  refusals 2, 3, 4
--     Elements     the batch: the trees it spells, and what is known of each element            5
--     Refusals     calls, mappings, notes; a batch accepted                              6, 16, 7
--     Writing      THE WRITER: the batch laid out from lists, and read as lists            14, 15
--     Recording    from calls to changes
--     Planning     sorting, overlap, owners and discarded changes                               8
--     EdgeRule     owners and discarded changes by edge rule 1; by either, as chosen
--     Withdrawing  stronger rules first: what is withdrawn before planning, as chosen
--     Rewriting    a dependent's targets, and the notes                                     9, 10
--     Running      the order, and one step                                                 11, 12
--     Finishing    the result and its bytes                                                    13
--     Answers      THE EDIT, all in a row                                                       1
--     FindElement  `find_element`
--     Performed    the splices that a batch performs on tree 0, as demand 3 speaks of them
--     Printed      what the edit program prints
--     Account      what becomes of each change, as the account program prints it
--     Computing    every definition opened, for examples
--     Examples     the printed case and the marked examples, one table
--     EdgeExamples both edge rules where they part, one table; the choices' numbers and arguments
--     WithdrawExamples  stronger rules first, off and on, where they part, one table
pub mod Basics
pub mod Words
pub mod Choices
pub mod Batch
pub mod Elements
pub mod Refusals
pub mod Writing
pub mod Recording
pub mod Planning
pub mod EdgeRule
pub mod Withdrawing
pub mod Rewriting
pub mod Running
pub mod Finishing
pub mod Answers
pub mod FindElement
pub mod Performed
pub mod Printed
pub mod Account
pub mod Computing
pub mod Examples
pub mod EdgeExamples
pub mod WithdrawExamples
