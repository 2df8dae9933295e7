pub mod NextItems
