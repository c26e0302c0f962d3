pub mod CellLaws
pub mod ErasureLaws
pub mod RefLaws
