pub mod TextReading
pub mod Claims
