-- What each step adds.
pub mod Steps
