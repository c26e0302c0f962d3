-- Which rooms are convex: the four parts of a room, when a part is convex, and the call.
pub mod Parts
pub mod Convex
pub mod Centres
