pub mod RowLaws
pub mod FillLaws
