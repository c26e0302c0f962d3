-- The laws of the line program and of the converter.
pub mod OutputLaws
pub mod HexLaws
pub mod SpelledLaws
pub mod LineLaws
pub mod FrameLaws
pub mod Bytes
pub mod LineCases
pub mod AnswerCases
pub mod BegunCases
pub mod ConvertedCases
pub mod ConvertedLaws
