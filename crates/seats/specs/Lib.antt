pub mod Seats
pub mod SeatSteps
