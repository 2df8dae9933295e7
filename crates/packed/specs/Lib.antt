pub mod Packed
pub mod Packing
pub mod PackedLaws
pub mod PackedStores
