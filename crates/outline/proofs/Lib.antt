-- Cases of the outline, and that a refusal writes nothing.
pub mod OutlineCases
pub mod CallLaws
