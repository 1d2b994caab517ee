pub mod Counted
pub mod Finite
pub mod Sought
pub mod Search
