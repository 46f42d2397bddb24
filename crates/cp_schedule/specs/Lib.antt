pub mod Record
pub mod Awake
pub mod Ended
pub mod Turns
pub mod Picked
pub mod First
