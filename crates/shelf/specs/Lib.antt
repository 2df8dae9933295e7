pub mod Shelf
pub mod Lookup
pub mod Survey
