-- Each answer of a function, from the tests that led there.
pub mod Laying
