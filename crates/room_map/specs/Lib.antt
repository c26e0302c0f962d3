-- A byte for each corner of the box of a walk.
pub mod Map
