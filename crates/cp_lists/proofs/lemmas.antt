pub mod Codes
pub mod Growth
pub mod Numbers
pub mod Places
pub mod ReadBack
pub mod Spines
pub mod Stepping
