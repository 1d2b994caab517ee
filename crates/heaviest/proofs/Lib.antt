pub mod RaiseLaws
pub mod PlaceLaws
