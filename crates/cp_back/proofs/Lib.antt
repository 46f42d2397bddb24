pub mod BelowLaws
pub mod CopyLaws
pub mod BackLaws
