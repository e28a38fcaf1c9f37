pub mod Choosing
pub mod Nesting
pub mod Rising
pub mod Single
pub mod Storing
pub mod Widening
