-- The laws that the proofs of line_parts cite.
pub mod WroteLaws
