-- The contracts of the calls for one line.
pub mod Reply
