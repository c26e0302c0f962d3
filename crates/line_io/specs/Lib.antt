-- What a round of a program on lines leaves, and what a whole run does.
pub mod Round
pub mod Send
pub mod Whole
