-- The laws that the proofs of sheet_entry cite.
pub mod EnterLaws
