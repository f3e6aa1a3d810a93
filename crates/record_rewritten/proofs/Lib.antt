-- Writing   a row with other ends, and a row copied
pub mod Writing
