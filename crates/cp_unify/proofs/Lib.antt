pub mod PairLaws
pub mod StepLaws
pub mod StackLaws
pub mod OrderLaws
pub mod RowLaws
