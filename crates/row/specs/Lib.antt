-- Spans of panels by rows, and what the call that lists them promises.
pub mod Rows
pub mod Call
