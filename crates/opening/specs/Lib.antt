pub mod Asking
pub mod Output
pub mod Opening
pub mod Claims
