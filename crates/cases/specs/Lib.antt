-- The worked walks as a table, and what each of its facts says.
pub mod Rows
