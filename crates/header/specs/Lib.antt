pub mod Header
pub mod Claims
