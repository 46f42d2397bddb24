pub mod Shapes
pub mod Parts
pub mod Seen
pub mod Asked
pub mod Refused
pub mod Found
pub mod Told
pub mod Posted
