pub mod Found
pub mod Walks
pub mod Cases
pub mod ListLaws
pub mod JoinedLaws
mod Examples
