pub mod Levels
pub mod Making
