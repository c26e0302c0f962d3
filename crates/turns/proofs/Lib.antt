-- The laws that the proofs of turns cite.
pub mod FaultLaws
pub mod ConvertLaws
