pub mod WorkedCases
pub mod StartCases
