pub mod PagesCall
pub mod Claims
