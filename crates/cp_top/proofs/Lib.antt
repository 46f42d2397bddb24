pub mod Telling
pub mod Workers
pub mod Inside
pub mod Examples
