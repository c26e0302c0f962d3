-- Laws of the outline's parts.
pub mod SideLaws
