-- The box of a walk.
pub mod Box
