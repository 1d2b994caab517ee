pub mod FleetTextLaws
pub mod LengthLaws
pub mod PrintLaws
pub mod Claims
