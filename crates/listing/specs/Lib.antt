pub mod Listing
pub mod ListedSelected
pub mod Calls
pub mod Session
pub mod Claims
