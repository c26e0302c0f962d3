pub mod RefusalCases
pub mod RefusalLaws
pub mod WordCases
pub mod StartLaws
pub mod ListedCases
pub mod ListedLaws
