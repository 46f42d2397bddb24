pub mod Ending
pub mod Lines
pub mod Written
pub mod Loading
pub mod Top
