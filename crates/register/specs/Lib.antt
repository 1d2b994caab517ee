pub mod Register
pub mod RegisterCall
pub mod Trees
pub mod Claims
