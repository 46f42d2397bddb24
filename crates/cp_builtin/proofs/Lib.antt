pub mod KindLaws
pub mod FunctorLaws
pub mod NewLaws
pub mod ClosedLaws
pub mod BallLaws
pub mod ArgumentLaws
pub mod ListLaws
