-- Laws of two rooms laid over each other.
pub mod JoinLaws
pub mod ChangeLaws
pub mod PartLaws
pub mod OverlayLaws
pub mod CallLaws
pub mod SweepLaws
pub mod ReadLaws
pub mod FewLaws
