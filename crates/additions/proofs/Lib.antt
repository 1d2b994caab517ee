pub mod OwnLaws
pub mod AddLaws
