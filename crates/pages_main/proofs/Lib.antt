pub mod WritingLaws
pub mod Claims
