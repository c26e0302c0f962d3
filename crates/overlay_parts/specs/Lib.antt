-- What is answered for the parts of two lists of spans.
pub mod Parts
