-- What the functions on a list of splices promise, and what follows for two orders.
pub mod Plain
pub mod Promises
pub mod TwoOrders
pub mod SameWords
pub mod InText
