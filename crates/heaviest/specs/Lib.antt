pub mod Heaviest
pub mod RaiseSteps
pub mod PlaceSteps
