-- The laws that the proofs of fields cite.
pub mod PutLaws
pub mod DigitLaws
