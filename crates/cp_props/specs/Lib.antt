pub mod Arguments
pub mod Checks
pub mod Language
pub mod Pending
pub mod Patterns
pub mod Demands
pub mod Scans
pub mod Search
