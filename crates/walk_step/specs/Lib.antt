pub mod Spots
pub mod Tallies
pub mod Walks
pub mod Chains
