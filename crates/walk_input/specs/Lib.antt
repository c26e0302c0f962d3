-- What the judgement of the input finds.
pub mod Input
