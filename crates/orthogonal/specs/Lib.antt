-- The orthogonal hull of a room's blocks, and what the call that outlines it promises.
pub mod Answers
pub mod Blocks
pub mod Call
