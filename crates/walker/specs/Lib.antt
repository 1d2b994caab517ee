pub mod Walker
pub mod Claims
