-- What the function that numbers lines promises.
pub mod Numbered
