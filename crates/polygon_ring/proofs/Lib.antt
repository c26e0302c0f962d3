-- Cases of polygons that are read.
pub mod CoordinateCases
pub mod RingCases
pub mod CallLaws
