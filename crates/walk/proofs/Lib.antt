pub mod CallCases
pub mod JudgedLaws
pub mod RoomLaws
pub mod SmallLaws
