-- What the row of a change tells one step of the run.
--     Told    how deep the change goes, by which rule it records
pub mod Told
