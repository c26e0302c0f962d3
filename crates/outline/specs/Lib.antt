-- The outer outline, and what its call promises.
pub mod Outline
pub mod Computed
pub mod Call
