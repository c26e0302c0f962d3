-- What a run over all operations finds and leaves.
pub mod Runs
