pub mod PruningLaws
pub mod Claims
