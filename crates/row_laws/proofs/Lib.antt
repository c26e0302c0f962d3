-- Laws of panel rows.
pub mod RowCases
pub mod OneLaws
pub mod FootLaws
pub mod PairLaws
pub mod RowLaws
pub mod RoomLaws
pub mod SortedLaws
pub mod SpanLaws
pub mod NumberLaws
pub mod CallLaws
