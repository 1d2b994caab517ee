pub mod Running
pub mod Claims
