pub mod PlaceLaws
pub mod PlaceRoom
pub mod PlaceLastLaws
pub mod GroupLaws
pub mod BelowLaws
