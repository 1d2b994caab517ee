pub mod ReverseSteps
pub mod ShiftSteps
pub mod ShiftBackSteps
pub mod ExchangeSteps
