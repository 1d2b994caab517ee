pub mod Reading
pub mod WriteCall
pub mod Refused
pub mod Walking
pub mod Claims
