pub mod PagesCallLaws
pub mod CountingLaws
pub mod PrintLaws
pub mod Claims
