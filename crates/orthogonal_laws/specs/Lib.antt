-- Connected sets of blocks, quadrants, and the rows of a hull.
pub mod Connected
pub mod HullRows
pub mod BlockBox
