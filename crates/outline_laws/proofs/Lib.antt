-- Laws of the outer outline.
pub mod OrbitLaws
pub mod TurnLaws
pub mod EdgeLaws
pub mod HomeLaws
pub mod PathLaws
pub mod RoundLaws
pub mod OutlineLaws
pub mod FewLaws
pub mod BetweenLaws
pub mod LinkLaws
pub mod KeyLaws
pub mod CallLaws
