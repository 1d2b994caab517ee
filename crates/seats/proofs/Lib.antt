pub mod PlaceVehicles
pub mod PlaceBeside
