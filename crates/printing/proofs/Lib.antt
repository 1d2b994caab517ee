pub mod AheadLaws
pub mod PageLaws
pub mod Claims
