-- Laws of the chain around a pile of rows.
pub mod ChainCases
pub mod ArcLaws
pub mod SideLaws
pub mod LengthLaws
pub mod SumLaws
pub mod RoomLaws
pub mod HomeLaws
pub mod DigitLaws
