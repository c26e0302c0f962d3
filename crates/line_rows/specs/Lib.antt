-- Numbers in lines of three.
pub mod Numbers
