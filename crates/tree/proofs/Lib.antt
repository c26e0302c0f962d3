pub mod TreeCases
pub mod NodeLaws
pub mod RefLaws
pub mod InUseLaws
pub mod OrderLaws
pub mod LinkLaws
pub mod LinkStepLaws
pub mod StartLaws
