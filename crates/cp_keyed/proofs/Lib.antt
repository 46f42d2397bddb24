pub mod Ahead
pub mod Finding
pub mod Indexing
pub mod Rows
pub mod Searching
