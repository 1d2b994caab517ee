pub mod WalkLaws
pub mod NoteLaws
pub mod GatherLaws
