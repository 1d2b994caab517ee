pub mod ReadingLaws
pub mod FillLaws
pub mod RoundTrip
pub mod Claims
