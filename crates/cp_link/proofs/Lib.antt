pub mod DistinctLaws
mod KeyLaws
mod ModuleLaws
mod OriginLaws
mod LeastLaws
mod Passing
mod Refusing
pub mod StepLaws
