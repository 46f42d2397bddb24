pub mod Lists
pub mod Shown
pub mod Stands
pub mod Entering
pub mod Programs
pub mod Starting
pub mod Gaining
