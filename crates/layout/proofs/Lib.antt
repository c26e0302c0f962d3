pub mod TableCases
pub mod NeighbourLaws
pub mod ChildLaws
pub mod WordLaws
pub mod IndexLaws
