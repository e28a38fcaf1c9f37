pub mod Appending
pub mod Comparing
pub mod Every
pub mod Flat
pub mod Inside
pub mod Laying
pub mod Ranges
