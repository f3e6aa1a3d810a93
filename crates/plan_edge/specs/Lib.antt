-- What becomes of each change by edge rule 1. In reading order:
--     Rule         the rule on the words of the element table and of the rows
--     Taking       which region takes a change: what the definition says
--     Told         what becomes of each change: what the definition says
--     Owners       a dependent's owner is a call 2 that stands among the changes
pub mod Rule
pub mod Taking
pub mod Told
pub mod Owners
