pub mod Answer
pub mod Evaluate
pub mod Exponential
pub mod Function
pub mod Limits
pub mod Numbers
pub mod Outputs
