pub mod Starred
pub mod ReplayFigures
