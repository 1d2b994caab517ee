pub mod SetLaws
pub mod Claims
