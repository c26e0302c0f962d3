pub mod TraceCases
pub mod MeetingLaws
pub mod VerdictLaws
pub mod VisitLaws
