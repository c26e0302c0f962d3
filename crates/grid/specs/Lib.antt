-- Corners, panels, steps, and the tree over the corners.
pub mod Grid
pub mod Tree
