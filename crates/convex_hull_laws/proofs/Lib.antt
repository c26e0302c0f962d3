-- Laws on the convex hull of the centres of a room's panels.
pub mod MeanLaws
pub mod StepLaws
pub mod LetterLaws
pub mod LineLaws
pub mod TurnedLaws
pub mod FilledLaws
pub mod UnderLaws
pub mod OrderLaws
pub mod RingLaws
pub mod HullLaws
