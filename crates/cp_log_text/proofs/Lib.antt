pub mod Parts
pub mod Texts
pub mod Cuts
pub mod Elements
pub mod Rows
