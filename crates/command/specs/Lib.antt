pub mod Cutting
pub mod Fields
pub mod Left
pub mod Lines
pub mod Loads
pub mod Misread
