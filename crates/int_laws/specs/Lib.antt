-- Integers as differences.
pub mod Signed
