pub mod Stopping
pub mod Advancing
