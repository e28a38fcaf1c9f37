pub mod Fill
pub mod Lent
pub mod Model
pub mod State
pub mod Steps
pub mod View
