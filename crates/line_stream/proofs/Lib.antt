-- The laws of input that comes in parts.
pub mod StreamLaws
pub mod JobLaws
pub mod PassLaws
pub mod HoldLaws
pub mod FillLaws
pub mod Demand
