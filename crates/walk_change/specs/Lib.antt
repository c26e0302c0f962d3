-- What the count of changed records reads.
pub mod Above
