-- Laws of the passes along the outline.
pub mod RingLaws
