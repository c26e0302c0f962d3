-- Laws and cases.
pub mod WalkedLaws
pub mod ToldLaws
pub mod ToldCases
