pub mod Answers
pub mod Given
pub mod Index
pub mod Indexed
pub mod MarkRows
pub mod Rows
