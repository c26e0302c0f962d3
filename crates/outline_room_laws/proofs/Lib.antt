-- Laws of what lies outside an outline, and of the outline of a room.
pub mod OutsideLaws
pub mod RingLaws
pub mod RoomLaws
pub mod SideLaws
pub mod WholeLaws
