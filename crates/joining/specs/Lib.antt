pub mod Joining
pub mod Claims
