-- The scan over columns.
pub mod Stack
