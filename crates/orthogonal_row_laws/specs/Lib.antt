-- The vertical edges of a walk by rows of blocks.
pub mod Lanes
