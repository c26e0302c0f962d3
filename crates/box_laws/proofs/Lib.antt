-- Laws of the box of a walk.
pub mod AxisLaws
pub mod PlaceLaws
pub mod StepLaws
pub mod PassLaws
