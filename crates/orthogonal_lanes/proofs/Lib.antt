-- Laws of lanes.
pub mod LaneLaws
