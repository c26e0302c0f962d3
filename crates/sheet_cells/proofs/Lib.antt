-- The laws that the proofs of sheet_cells cite.
pub mod CellLaws
