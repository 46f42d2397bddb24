pub mod Table
pub mod Operators
pub mod Rows
pub mod Standard
pub mod Declarations
pub mod Text
