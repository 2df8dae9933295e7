pub mod BitsOfBytes
pub mod Computed
pub mod Gets
pub mod PackedTapes
pub mod Parts
pub mod Puts
pub mod Words
