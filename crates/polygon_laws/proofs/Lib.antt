-- Laws of the writer.
pub mod BytesLaws
pub mod ValueLaws
pub mod SignedLaws
pub mod BendLaws
pub mod WriteLaws
pub mod PointLaws
