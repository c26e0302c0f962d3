-- Lower ends as keys, lists of spans as the sweep reads them, and what it leaves of the parts of two such lists.
pub mod Keys
pub mod Parts
