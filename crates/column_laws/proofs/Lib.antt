-- Laws of the columns of a walk, and of the lowest of the leftmost corners.
pub mod BeginLaws
pub mod TrailLaws
pub mod SurveyLaws
