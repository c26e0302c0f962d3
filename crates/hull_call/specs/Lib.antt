-- The hull call.
pub mod Store
