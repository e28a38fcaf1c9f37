pub mod Interval
pub mod Lists
pub mod Whole
