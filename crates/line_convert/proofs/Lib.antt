-- The laws that the proofs of line_convert cite.
pub mod ConvertLaws
