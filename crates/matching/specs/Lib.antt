pub mod Limits
pub mod FitsSteps
