pub mod NewCartridges
pub mod JoinedCalls
pub mod WholeReplays
pub mod Deposits
