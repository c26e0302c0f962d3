-- Well-Known Binary: bytes, coordinates, and the polygon of a room.
pub mod Bytes
pub mod Coordinate
pub mod Polygon
