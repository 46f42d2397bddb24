pub mod Rows
pub mod Extending
