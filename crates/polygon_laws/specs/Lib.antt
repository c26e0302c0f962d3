-- What the contracts of the writer say of parts of a call, and its points.
pub mod Bends
pub mod Points
