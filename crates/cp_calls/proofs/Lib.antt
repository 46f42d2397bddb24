pub mod GoalLaws
pub mod SeenLaws
pub mod CheckLaws
pub mod ExitLaws
pub mod RemoteLaws
