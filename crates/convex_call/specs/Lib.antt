-- What a room is laid down as.
pub mod Laid
