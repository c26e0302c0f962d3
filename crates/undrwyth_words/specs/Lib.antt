-- Answers whose numbers fit 32 bits.
pub mod Words
