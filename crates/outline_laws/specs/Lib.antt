-- What theorems on the outline say, and what its code keeps.
pub mod Different
pub mod Keys
pub mod Links
