-- Cases of polygons, and the law of one answer.
pub mod PolygonCases
pub mod PolygonLaws
