pub mod BesideLaws
pub mod ShapeLaws
pub mod WriterLaws
pub mod NameLaws
