pub mod Calling
pub mod Filling
pub mod Growing
pub mod Loading
pub mod Ranges
pub mod Reading
