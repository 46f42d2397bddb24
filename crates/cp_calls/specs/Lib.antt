pub mod Rows
pub mod Goals
pub mod Exits
