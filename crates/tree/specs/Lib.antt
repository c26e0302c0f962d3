-- The nodes in use, and their links.
pub mod Nodes
