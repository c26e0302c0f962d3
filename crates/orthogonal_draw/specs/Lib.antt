-- The sides of a pile of rows.
pub mod Sides
