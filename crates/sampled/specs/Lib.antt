pub mod Grid
pub mod Sampled
