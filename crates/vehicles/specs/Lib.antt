pub mod Vehicle
pub mod Claims
