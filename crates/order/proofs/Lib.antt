-- The law of the greatest byte.
pub mod MostLaws
