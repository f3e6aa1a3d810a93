-- Numbers   what the library's tests of the bookmarks' places are: 20
pub mod Numbers
