pub mod AskLaws
pub mod MatchedLaws
pub mod Claims
