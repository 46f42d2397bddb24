pub mod Plugging
