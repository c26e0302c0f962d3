-- What a call asks of a room.
pub mod Room
