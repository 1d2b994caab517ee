pub mod OneNode
pub mod CountedLaws
pub mod SetLaws
pub mod Claims
