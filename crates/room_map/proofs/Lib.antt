-- Laws of the map.
pub mod MapLaws
