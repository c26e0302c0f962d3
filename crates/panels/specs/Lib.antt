-- Vertical edges, the bounding box with the sum over its panels, the panels inside, and loops turned, mirrored and walked
-- backwards.
pub mod Edges
pub mod Box
pub mod Inside
pub mod Moved
