pub mod FormCall
pub mod Claims
