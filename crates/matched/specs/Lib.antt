pub mod Matched
pub mod Claims
