pub mod Numerals
pub mod Sorting
pub mod Reading
pub mod Values
pub mod Whole
