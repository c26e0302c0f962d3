-- The laws that the proofs of sheet_number cite.
pub mod NumberedLaws
