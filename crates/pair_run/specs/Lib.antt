-- What a run over all operations of two parties finds and leaves.
pub mod Runs
