-- The laws of a step in the columns.
pub mod StepLaws
