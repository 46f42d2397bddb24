pub mod FollowLaws
pub mod QuestionLaws
