pub mod Odd
pub mod OddLaws
pub mod OddTapes
