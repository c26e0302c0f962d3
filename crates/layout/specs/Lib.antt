-- Records, the table, marks and the chain.
pub mod Table
pub mod Marks
