pub mod Fnv
pub mod Xorshift
