pub mod BodyLaws
pub mod SeenLaws
