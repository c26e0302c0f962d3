-- The laws that the proofs of line_rows cite.
pub mod ThreeLaws
pub mod RoomLaws
