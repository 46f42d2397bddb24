pub mod ExtendLaws
pub mod EnterLaws
pub mod CallLaws
