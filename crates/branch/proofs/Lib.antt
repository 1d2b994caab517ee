pub mod BranchLaws
pub mod BranchChildren
pub mod BranchLimit
pub mod BranchLevels
