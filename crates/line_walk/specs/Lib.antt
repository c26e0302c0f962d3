-- The contract of the walk of a line.
pub mod Walk
