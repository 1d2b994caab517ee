pub mod Placing
pub mod PlaceSteps
