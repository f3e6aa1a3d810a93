-- Recordings   a change, a call and all calls recorded: each answer, from the tests that led there
pub mod Recordings
