-- The laws that the proofs of line_reply cite.
pub mod ListedLaws
pub mod ReplyLaws
