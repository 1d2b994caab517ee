pub mod Branch
pub mod Limit
