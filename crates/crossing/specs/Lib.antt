pub mod Number
pub mod Fields
