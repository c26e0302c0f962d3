-- The laws that the proofs of lines cite.
pub mod TaskLaws
pub mod Demand
