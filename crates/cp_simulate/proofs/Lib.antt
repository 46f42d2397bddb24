pub mod Heads
pub mod Mains
pub mod Objects
pub mod Safe
pub mod Engines
pub mod Outcomes
