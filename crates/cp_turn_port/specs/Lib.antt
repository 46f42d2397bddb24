pub mod Port
pub mod Seat
