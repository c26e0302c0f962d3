-- Cases and laws of rooms.
pub mod RoomCases
pub mod RoomLaws
