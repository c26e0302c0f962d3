-- Polygons in: numbers, coordinates, rings.
pub mod Answers
pub mod Bytes
pub mod Coordinate
pub mod Ring
pub mod Words
