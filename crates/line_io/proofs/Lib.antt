-- The laws of the pages and of the rounds of a program on lines.
pub mod SendLaws
pub mod RunLaws
