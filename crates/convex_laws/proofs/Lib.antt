-- Laws on the decision.
pub mod ConvexCases
pub mod LevelLaws
pub mod PartLaws
pub mod CycleLaws
pub mod PlaceLaws
pub mod WestLaws
pub mod RoomLaws
pub mod WayLaws
pub mod TravelLaws
pub mod TurnLaws
pub mod SplitLaws
pub mod GirthLaws
