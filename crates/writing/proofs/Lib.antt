pub mod WritingLaws
pub mod WriteSteps
