pub mod PutLaws
pub mod GroupSteps
