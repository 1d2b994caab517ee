pub mod Printing
pub mod Claims
