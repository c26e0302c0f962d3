-- The definitions of the line program.
pub mod Sizes
pub mod Hex
pub mod Spelled
pub mod Line
pub mod Program
pub mod Begun
pub mod Converted
