-- Laws of polygons that are read.
pub mod NumberLaws
pub mod WholeLaws
pub mod BitsLaws
pub mod TakeLaws
pub mod SignLaws
pub mod FieldLaws
pub mod AxisLaws
pub mod RingLaws
pub mod ReadLaws
pub mod RunLaws
pub mod BackLaws
pub mod PassLaws
pub mod RoomLaws
pub mod TripLaws
pub mod PointLaws
pub mod FileLaws
pub mod TwinLaws
