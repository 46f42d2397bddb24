mod Terms
mod Folds
mod BodyLaws
mod SeenLaws
mod StackLaws
mod FactLaws
mod ErrorLaws
