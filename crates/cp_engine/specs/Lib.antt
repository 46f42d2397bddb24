pub mod Good
pub mod Walking
