-- The laws that the proofs of line_walk cite.
pub mod WalkLaws
pub mod ClearLaws
