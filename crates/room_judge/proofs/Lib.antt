-- Laws of the judgement.
pub mod JudgeLaws
