-- What the passes along the outline ask and promise.
pub mod Ring
