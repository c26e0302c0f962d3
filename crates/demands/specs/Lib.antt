-- The moments of a walk, when each answer of the calls and of the programs on lines is given, what a record says, what is lent for the surviving steps alone, an
-- input in parts, and what is read in the lines that are written.
pub mod Moments
pub mod Given
pub mod GivenTurns
pub mod GivenChain
pub mod GivenHull
pub mod GivenRoom
pub mod GivenRows
pub mod GivenOverlay
pub mod GivenOutline
pub mod GivenOrthogonal
pub mod GivenFile
pub mod GivenLine
pub mod Record
pub mod Alone
pub mod Shares
pub mod Fields
pub mod Cells
