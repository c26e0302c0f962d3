-- The walk that is over.
pub mod Settled
