pub mod ChangedLaws
pub mod LevelLaws
