pub mod EndLaws
pub mod KeyLaws
pub mod CloseLaws
