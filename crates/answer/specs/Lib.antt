-- The limits, the numbers of refusals and verdicts, and those of the answers.
pub mod Limits
pub mod Answers
pub mod Refusal
pub mod Words
pub mod Listed
