-- Laws of the orthogonal hull.
pub mod RowCases
pub mod JoinedLaws
pub mod RowLaws
pub mod InsideLaws
pub mod BlockLaws
pub mod HullLaws
pub mod OneLaws
pub mod CallLaws
pub mod EndsLaws
pub mod OutlineLaws
pub mod LengthLaws
pub mod BoxLaws
pub mod NotchLaws
