-- What the functions' proofs cite: what each test tells, the invariants of the loops, and a turn of each.
pub mod Tests
pub mod Taking
pub mod Leaving
