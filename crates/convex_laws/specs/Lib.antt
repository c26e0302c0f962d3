-- The method by columns, the places of the extremal corners, and the decision on a room.
pub mod Level
pub mod Place
pub mod Way
pub mod Decide
