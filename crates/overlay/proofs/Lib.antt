pub mod OverlayCases
pub mod CallCases
