-- What the pass over a chain finds of the walk's box.
pub mod Boxed
