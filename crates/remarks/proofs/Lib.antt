pub mod WalkLaws
pub mod CopiedLaws
