pub mod Model
pub mod Climb
