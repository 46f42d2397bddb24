mod Naming
mod Rows
mod Speaking
