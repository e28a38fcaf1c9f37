pub mod Adding
pub mod Decoding
pub mod Evaluating
pub mod Fitting
pub mod Grids
pub mod Spreading
pub mod Storing
