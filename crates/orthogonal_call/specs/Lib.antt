-- What the parts of the call ask of their stores.
pub mod Store
