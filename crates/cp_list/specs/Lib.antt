pub mod Lists
pub mod ReservedList
