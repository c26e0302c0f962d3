-- Laws of the rows of blocks.
pub mod FloorLaws
pub mod EdgeLaws
pub mod LowEndLaws
pub mod EndsLaws
pub mod PileLaws
