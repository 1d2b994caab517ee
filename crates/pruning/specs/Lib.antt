pub mod Pruning
pub mod Claims
