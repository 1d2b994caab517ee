pub mod Support
pub mod CountSteps
pub mod SupportCall
pub mod PlaceCall
pub mod Claims
