pub mod OccurrenceLaws
pub mod SupportLaws
pub mod OccursLaws
pub mod CountLaws
pub mod CallLaws
pub mod Claims
