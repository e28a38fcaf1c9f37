pub mod Clamping
pub mod Judging
pub mod Mixing
pub mod Writing
