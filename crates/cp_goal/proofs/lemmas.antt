pub mod Quotients
pub mod Folds
pub mod Values
