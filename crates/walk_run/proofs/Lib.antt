pub mod ApplyLaws
pub mod RunLaws
