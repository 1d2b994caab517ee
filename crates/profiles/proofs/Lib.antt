pub mod MeasureLaws
pub mod SelectsLaws
pub mod AssessLaws
pub mod WalkLaws
pub mod FirstLaws
