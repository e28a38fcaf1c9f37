pub mod Jobs
pub mod Left
