pub mod Instructions
pub mod Refusals
pub mod Reading
pub mod Fronts
pub mod Readouts
