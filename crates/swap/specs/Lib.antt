pub mod Swap
pub mod Claims
