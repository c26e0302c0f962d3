-- What the listing of rows asks of the walk and of its working store.
pub mod Store
