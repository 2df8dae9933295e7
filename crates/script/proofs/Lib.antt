pub mod Operands
pub mod Exact
pub mod Steps
pub mod Whole
pub mod Counts
