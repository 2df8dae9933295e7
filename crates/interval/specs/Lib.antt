pub mod Shorts
pub mod Gaps
pub mod Intervals
pub mod Marks
pub mod IntervalStores
pub mod IntervalLaws
