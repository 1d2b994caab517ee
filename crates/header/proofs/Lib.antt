pub mod HeaderLaws
pub mod Claims
