-- The library's words, and words about lists.
pub mod Lists
