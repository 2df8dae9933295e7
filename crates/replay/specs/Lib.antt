pub mod Copies
pub mod Replay
pub mod Scan
pub mod Seeking
pub mod Answered
pub mod Finding
pub mod Laws
