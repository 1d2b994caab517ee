pub mod AnswerLaws
pub mod NodeLaws
pub mod FleetGrowth
pub mod ReaderState
pub mod TellsLaws
pub mod ReaderSteps
pub mod FleetCheck
