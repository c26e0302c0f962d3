-- The passes over the columns.
pub mod Extent
