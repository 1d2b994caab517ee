pub mod EachLaws
pub mod RowLaws
pub mod PutLaws
pub mod Claims
