-- What is said of input that comes in parts, and what the functions that take a part promise.
pub mod Stream
pub mod Fill
