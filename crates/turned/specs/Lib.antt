pub mod Turned
pub mod AboveRoot
pub mod Claims
