pub mod Operations
pub mod Errors
pub mod Folds
pub mod Evaluation
pub mod Names
pub mod Lists
pub mod Builtins
