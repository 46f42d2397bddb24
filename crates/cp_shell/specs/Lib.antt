pub mod Stage
pub mod Asked
pub mod Parked
pub mod Turn
pub mod Due
pub mod Shell
