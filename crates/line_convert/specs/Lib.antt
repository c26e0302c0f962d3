-- The contract of the call for one line.
pub mod Convert
