pub mod Line
pub mod History
pub mod Port
pub mod Engine
pub mod Log
pub mod Building
