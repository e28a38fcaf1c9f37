pub mod Answering
pub mod Bits
pub mod Checking
pub mod Nans
pub mod Reading
pub mod RoundNearest
pub mod RootNearest
