pub mod Text
pub mod Building
