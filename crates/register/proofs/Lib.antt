pub mod LabelLaws
pub mod HolderLaws
pub mod EntryLaws
pub mod TreeLaws
pub mod AllLaws
pub mod RegisterLaws
pub mod Claims
