-- The writing of a list of corners.
pub mod Parts
