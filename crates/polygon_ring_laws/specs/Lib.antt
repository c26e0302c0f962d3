-- What the contracts of polygons that are read say of parts of a call.
pub mod Fields
pub mod Reading
pub mod Passing
pub mod Files
