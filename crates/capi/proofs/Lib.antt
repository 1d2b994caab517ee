pub mod ValueLaws
pub mod Claims
