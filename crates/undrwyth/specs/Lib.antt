-- What each function for C gives.
pub mod Boundary
