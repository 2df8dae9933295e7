pub mod Copies
pub mod Spelling
pub mod GapReads
pub mod IntervalTapes
pub mod StrideSteps
pub mod Unspoiling
pub mod IntervalGrowth
pub mod IntervalPuts
