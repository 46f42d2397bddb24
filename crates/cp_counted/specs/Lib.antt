pub mod Agreement
pub mod KeyOrder
pub mod Keys
