pub mod BatchLaws
pub mod RowSession
pub mod Claims
pub mod RegisterLaws
