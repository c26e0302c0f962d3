-- Tools for the integers.
pub mod LinearLaws
pub mod RingLaws
pub mod SignLaws
pub mod RangeLaws
pub mod NextLaws
