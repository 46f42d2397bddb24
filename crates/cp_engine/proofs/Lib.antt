pub mod DueLaws
pub mod AnswerLaws
pub mod MoveLaws
pub mod WalkLaws
pub mod StartedLaws
