pub mod RowsCases
