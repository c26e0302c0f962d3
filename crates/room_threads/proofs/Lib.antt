-- Laws of the columns that a walk can reach.
pub mod ReachLaws
