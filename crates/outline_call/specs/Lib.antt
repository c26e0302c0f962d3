-- What is done with a chain that is not refused.
pub mod Traced
