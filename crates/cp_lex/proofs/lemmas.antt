pub mod CommentLaws
pub mod NumberLaws
pub mod QuotedLaws
pub mod InsideLaws
pub mod ScanLaws
pub mod LocalLaws
pub mod JoinLaws
pub mod StopLaws
