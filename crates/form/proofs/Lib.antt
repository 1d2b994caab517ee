pub mod InFormSteps
pub mod FormSteps
pub mod Claims
