pub mod FleetText
pub mod Claims
