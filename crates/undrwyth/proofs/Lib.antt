-- The laws of the C boundary.
pub mod BoundaryLaws
pub mod Demand
