pub mod ArgumentLaws
pub mod AskLaws
pub mod BuiltinLaws
