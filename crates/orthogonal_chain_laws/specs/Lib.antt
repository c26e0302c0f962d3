-- The chain around a pile of rows.
pub mod Chain
