pub mod PieceLaws
pub mod WordLaws
pub mod JoinLaws
pub mod Claims
