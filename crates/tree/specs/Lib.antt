pub mod Rules
pub mod Subtrees
