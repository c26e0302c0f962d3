-- A map of the box of a walk: one byte for each corner, with a bit for each way.
pub mod Map
pub mod Ring
