pub mod HullCases
