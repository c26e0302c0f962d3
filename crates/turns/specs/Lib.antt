-- Both conversions as one, by its way.
pub mod Way
