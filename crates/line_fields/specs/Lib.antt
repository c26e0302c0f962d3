-- What the functions that write fields promise.
pub mod Put
