-- Laws and cases of convex rooms.
pub mod ConvexCases
pub mod ConvexLaws
