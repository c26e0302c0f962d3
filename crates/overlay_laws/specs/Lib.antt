-- The lower ends of two walks joined, those at which a part of their panels begins or ends, the lists of the parts, and how they
-- are read from lists of spans.
pub mod Join
pub mod Sweep
