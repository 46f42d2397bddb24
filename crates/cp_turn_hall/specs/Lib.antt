pub mod Behind
pub mod Closing
pub mod Grown
pub mod Turn
