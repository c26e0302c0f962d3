-- The sheet of polygons: numbers in decimal, sizes, what it says of a line, and the whole of it.
pub mod Decimal
pub mod Sizes
pub mod Entry
pub mod Sheet
