pub mod Names
pub mod Formulas
pub mod Assertions
pub mod RegularTypes
