-- What the parts of the walk's call leave.
pub mod Followed
