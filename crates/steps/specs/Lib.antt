-- Operations, turns, and chains of steps.
pub mod Operations
pub mod Turns
pub mod Chain
