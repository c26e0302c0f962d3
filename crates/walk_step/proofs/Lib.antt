pub mod SpotLaws
pub mod TallyLaws
pub mod WalkLaws
pub mod ChainLaws
