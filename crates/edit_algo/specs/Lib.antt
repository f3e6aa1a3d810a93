-- The answers of the public calls as document 01 numbers them; what is promised is told in `Promises` and `Serving` of promises.
pub mod Numbers
