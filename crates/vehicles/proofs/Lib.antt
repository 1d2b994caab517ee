pub mod StretchLaws
pub mod StartLaws
pub mod Claims
