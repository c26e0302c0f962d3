-- The laws of the polygon's prefix.
pub mod PrefixLaws
