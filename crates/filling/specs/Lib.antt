pub mod Row
pub mod Filling
