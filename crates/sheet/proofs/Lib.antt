-- The laws of the sheet of polygons, and cases.
pub mod SheetCases
pub mod SizeLaws
pub mod EntryLaws
pub mod NumberLaws
pub mod RowLaws
