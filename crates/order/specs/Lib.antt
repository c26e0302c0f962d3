-- The greatest of some bytes.
pub mod Highest
