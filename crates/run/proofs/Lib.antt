pub mod TableLaws
pub mod StepLaws
pub mod Claims
pub mod PartLaws
