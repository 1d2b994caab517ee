pub mod Pages
pub mod Claims
