-- Laws of the panels inside a room.
pub mod ShiftLaws
pub mod AcrossLaws
pub mod CornerLaws
pub mod RoundLaws
pub mod KeepsLaws
pub mod InsideLaws
pub mod RoomLaws
pub mod RoomCases
