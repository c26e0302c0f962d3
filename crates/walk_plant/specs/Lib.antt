-- What planting a start asks and leaves.
pub mod Plants
