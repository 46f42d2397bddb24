pub mod Words
pub mod Pairs
pub mod Steps
pub mod Rows
