-- What lies outside a walk.
pub mod Outside
