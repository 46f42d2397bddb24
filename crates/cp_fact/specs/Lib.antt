pub mod Contents
pub mod Effect
pub mod Plan
pub mod Inside
