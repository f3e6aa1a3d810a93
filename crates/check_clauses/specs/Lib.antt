-- What the clauses of the checker need of the words that they read.
--     Asked   that what an element's words name is there; the promise of `pair_up`
pub mod Asked
