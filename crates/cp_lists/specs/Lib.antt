pub mod Digits
pub mod Growing
pub mod Places
pub mod Steps
pub mod Texts
