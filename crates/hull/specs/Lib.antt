-- The convex hull, and the call that lists it.
pub mod Hull
pub mod Call
