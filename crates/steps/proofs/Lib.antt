pub mod OperationCases
pub mod SurvivorLaws
pub mod TurnCases
pub mod TurnLaws
pub mod TurnPromiseLaws
pub mod ChainCases
pub mod ChainLaws
