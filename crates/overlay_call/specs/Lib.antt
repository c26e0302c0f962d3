-- Lists of spans in buffers, and numbers of two sizes.
pub mod Lists
