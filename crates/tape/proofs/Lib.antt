pub mod Masking
pub mod Promised
pub mod Replies
pub mod Searching
pub mod Tapes
pub mod Touching
