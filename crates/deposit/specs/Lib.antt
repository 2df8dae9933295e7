pub mod NewCartridge
pub mod OperatorCalls
pub mod Operating
pub mod WholeReplay
pub mod Depositing
