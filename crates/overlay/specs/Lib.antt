-- Two rooms laid over each other, and what the call that lists their parts promises.
pub mod Answers
pub mod Overlay
pub mod Call
