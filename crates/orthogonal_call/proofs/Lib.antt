-- Laws of the call.
pub mod CallLaws
