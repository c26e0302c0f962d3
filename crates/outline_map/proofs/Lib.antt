-- Laws of the map.
pub mod BitLaws
pub mod BoxLaws
pub mod MarkLaws
pub mod WayLaws
