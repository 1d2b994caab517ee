pub mod Putting
pub mod Groups
