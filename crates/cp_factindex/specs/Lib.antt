pub mod Contents
pub mod Effect
pub mod Inside
pub mod Plan
pub mod Purged
pub mod Steps
pub mod Waiting
pub mod Woken
