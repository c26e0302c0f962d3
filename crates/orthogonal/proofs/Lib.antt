pub mod OrthogonalCases
