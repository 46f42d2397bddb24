pub mod Numbered
pub mod Working
pub mod Gathering
pub mod Going
pub mod Crossing
