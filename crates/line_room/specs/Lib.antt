-- The definitions of the programs that take lines as rooms.
pub mod Told
