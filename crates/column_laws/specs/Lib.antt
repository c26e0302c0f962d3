-- The columns of a walk.
pub mod Columns
