-- Meetings, verdicts, areas, and the different corners of a walk.
pub mod Meeting
pub mod Verdict
