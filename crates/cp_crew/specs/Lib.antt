pub mod Crew
pub mod Staff
